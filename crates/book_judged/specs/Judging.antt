-- An entry made from the judge's answer on a tape (02, R-11: the book sees only the judge's published answers). It speaks of the
-- judge's promise alone. Assumes nothing.
use Rattle.std.specs.Prelude.{◌≡◌, List, ℕ, length}
use Rattle.tape_read.specs.Entries.{Entry as TapeEntry}
use Rattle.tape_read.specs.Tapes.{entries, unreadable, read_tape}
use Rattle.rulebook.specs.Session.{Session, Open, BreaksAt}
use Rattle.verdict.specs.declared.Ruling.{Ruling}
use Rattle.verdict_judged.specs.Judged.{Judged}
use Rattle.book_block.specs.Entries.{pass, fail, inconclusive, unreadable as unreadable_number, made}
use Rattle.book_block.specs.declared.Entry.{Entry}
use Rattle.book_answer.specs.Answers.{entry_of}

-- some ruling that the judge's promise admits for the tape, as an entry under this number
pub record EnteredFor (number : ℕ) (t : List ℕ) (e : Entry) : Type 0 where
  pub ruling : Ruling
  pub promised : Judged t ruling
  pub entry : e ≡ entry_of number ruling

-- the entry that demand 3 names for a tape: by what the tape reads as, and by the rulebook
pub data Named (number : ℕ) (t : List ℕ) (e : Entry) : Type 0 where
  -- a finished session: so many entries
  passes : (es : List TapeEntry) → read_tape t ≡ entries es → Session es → e ≡ made number pass (length es) 0 → Named number t e
  -- an unfinished beginning, or one closing silence after one that waits for the card
  undecided : (es : List TapeEntry) → read_tape t ≡ entries es → Open es → e ≡ made number inconclusive (length es) 0 → Named number t e
  -- neither: the entry at which the rules are first broken
  fails : (es : List TapeEntry) (k : ℕ) → read_tape t ≡ entries es → BreaksAt es k → e ≡ made number fail k 0 → Named number t e
  -- not readable: the block, and what is wrong with it
  damaged : (place code : ℕ) → read_tape t ≡ unreadable place code → e ≡ made number unreadable_number place code → Named number t e
