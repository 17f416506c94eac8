-- What is proved of what is due: it is a statement about the rules. Demand 3.
-- Assumes nothing.
use Rattle.std.specs.Prelude.{◌≡◌, List, [], ◌∷◌, ◌++◌, ℕ, length}
use Rattle.numbers.specs.Tables.{command, decision}
use Rattle.tape_read.specs.Entries.{Entry, entry}
use Rattle.sessions.specs.Rules.{Rules}
use Rattle.sessions.specs.Session.{Session, Beginning, Closed, Lawful, BreaksAt}
use Rattle.due_under.specs.Due.{Due, asking, saying, deciding, nothing, Fits}
use Rattle.due_under.specs.After.{DueAfter, due_after}

-- some entries, and one behind them
abbrev pub with_one : List Entry → Entry → List Entry
with_one es e = es ++ (e ∷ [])

module _ {Asked Heard Situation : Type 0} (rules : Rules Asked Heard Situation) where
  -- one entry may follow, and no other
  pub record OnlyOne (es : List Entry) (e : Entry) : Type 0 where
    pub may : Lawful rules (with_one es e)
    pub no_other : (f : Entry) → Lawful rules (with_one es f) → f ≡ e

  -- for rules that open with a word, as START is
  pub record MayFollow (start : Heard) : Type 0 where
    -- it opens a tape
    pub opening : due_after rules [] ≡ saying start
    -- what is due after any entries is said by the sessions, and one thing is due
    pub due : (es : List Entry) → DueAfter rules es (due_after rules es)
    pub one_due : (es : List Entry) (d : Due Heard) → DueAfter rules es d → due_after rules es ≡ d
    -- an entry may follow exactly where it fits what is due
    pub fits : (es : List Entry) (e : Entry) → Lawful rules (with_one es e) → Fits rules (due_after rules es) e
    pub follows : (es : List Entry) (e : Entry) → Fits rules (due_after rules es) e → Lawful rules (with_one es e)
    -- after an unfinished beginning some entry fits; after a session and after a closing silence none does
    pub something : (es : List Entry) → Beginning rules es → (e : Entry) × Fits rules (due_after rules es) e
    pub after_session : (es : List Entry) → Session rules es → due_after rules es ≡ nothing
    pub after_silence : (es : List Entry) → Closed rules es → due_after rules es ≡ nothing
    -- where a command or the decision is due exactly one entry may follow
    pub one_command : (es : List Entry) (c : List ℕ) → due_after rules es ≡ asking c → OnlyOne es (entry command c)
    pub one_decision : (es : List Entry) (d : List ℕ) → due_after rules es ≡ deciding d → OnlyOne es (entry decision d)
    -- the rules are first broken at an entry exactly where it is the first that does not fit
    pub breaks : (es : List Entry) (e : Entry) (more : List Entry) → BreaksAt rules (es ++ (e ∷ more)) (length es)
        → Fits rules (due_after rules es) e → ⊥
    pub first_unfit : (es : List Entry) (e : Entry) (more : List Entry) → Lawful rules es → (Fits rules (due_after rules es) e → ⊥)
        → BreaksAt rules (es ++ (e ∷ more)) (length es)
