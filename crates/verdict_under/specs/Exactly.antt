-- What an answer tells of the entries of a readable tape, and they of it, verdict by verdict. Demand 3.
-- Assumes nothing.
use Rattle.std.specs.Prelude.{◌≡◌, List, length}
use Rattle.tape_read.specs.Entries.{Entry}
use Rattle.sessions.specs.Rules.{Rules}
use Rattle.sessions.specs.Session.{Session, Open, BreaksAt}
use Rattle.verdict.specs.Saying.{says}
use Rattle.verdict.specs.declared.Verdict.TheVariants.{Pass, Fail, Inconclusive, Unreadable}
use Rattle.verdict.specs.declared.Ruling.{Ruling}

module _ {Asked Heard Situation : Type 0} (rules : Rules Asked Heard Situation) where
  pub record Exactly (es : List Entry) (a : Ruling) : Type 0 where
    -- PASS exactly when the entries are a finished session, with their number
    pub pass : a.verdict ≡ Pass → Session rules es
    pub passed : Session rules es → a ≡ says Pass (length es) 0
    -- INCONCLUSIVE exactly when they are open, with their number
    pub inconclusive : a.verdict ≡ Inconclusive → Open rules es
    pub left_open : Open rules es → a ≡ says Inconclusive (length es) 0
    -- otherwise FAIL, naming the entry at which the rules are first broken
    pub fail : a.verdict ≡ Fail → BreaksAt rules es a.place
    pub failed : (Session rules es → ⊥) → (Open rules es → ⊥) → a.verdict ≡ Fail
    -- and never UNREADABLE
    pub read : a.verdict ≡ Unreadable → ⊥
    pub code : a.code ≡ 0
