-- The verdict of a tape (demand 3; 01, "The tape": verdict, place, code). It speaks of what the tape reads as and of the sessions that
-- rules allow, alone.
-- Assumes nothing.
use Rattle.std.specs.Prelude.{◌≡◌, List, ℕ, length}
use Rattle.tape_read.specs.Entries.{Entry}
use Rattle.tape_read.specs.Tapes.{entries, unreadable, read_tape}
use Rattle.sessions.specs.Rules.{Rules}
use Rattle.sessions.specs.Session.{Session, Open, BreaksAt}
use Rattle.verdict.specs.Saying.{says}
use Rattle.verdict.specs.declared.Verdict.TheVariants.{Pass, Fail, Inconclusive, Unreadable}
use Rattle.verdict.specs.declared.Ruling.{Ruling}

module _ {Asked Heard Situation : Type 0} (rules : Rules Asked Heard Situation) where
  -- the answer for a tape that reads as these entries
  pub data JudgesUnder (es : List Entry) (a : Ruling) : Type 0 where
    -- a finished session: so many entries
    passes : Session rules es → a ≡ says Pass (length es) 0 → JudgesUnder es a
    -- an unfinished beginning, or one closing silence after one that waits for the card: so many entries
    undecided : Open rules es → a ≡ says Inconclusive (length es) 0 → JudgesUnder es a
    -- neither: the entry, counted from 0, at which the rules are first broken
    fails : (k : ℕ) → BreaksAt rules es k → a ≡ says Fail k 0 → JudgesUnder es a

  -- and for any bytes: what makes a tape unreadable goes before all that its entries say
  pub data JudgedUnder (t : List ℕ) (a : Ruling) : Type 0 where
    readable : (es : List Entry) → read_tape t ≡ entries es → JudgesUnder es a → JudgedUnder t a
    damaged : (place code : ℕ) → read_tape t ≡ unreadable place code → a ≡ says Unreadable place code → JudgedUnder t a
