-- What the laws of sessions are stated with: that a phase can be finished, that a list of entries is one of three sorts (demand 3), that each
-- phase of a row leads to the next.
-- Assumes nothing.
use Rattle.std.specs.Prelude.{List, [], ◌∷◌}
use Rattle.tape_read.specs.Entries.{Entry}
use Rattle.sessions.specs.Rules.{Phase, Rules}
use Rattle.sessions.specs.Session.{Plays, Session, Open}

module _ {Asked Heard Situation : Type 0} (rules : Rules Asked Heard Situation) where
  -- what leads from a phase to the end
  abbrev pub Finished : Phase Asked Heard Situation → Type 0
  Finished p = (es : List Entry) × Plays rules p es

  -- a session, an unfinished one, or neither
  pub data Sort (es : List Entry) : Type 0 where
    finished : Session rules es → Sort es
    unfinished : Open rules es → Sort es
    neither : (Session rules es → ⊥) → (Open rules es → ⊥) → Sort es

-- phases in a row, each related to the next
pub data InRow {P : Type 0} (R : P → P → Type 0) : List P → Type 0 where
  alone : {p : P} → InRow R (p ∷ [])
  onward : {p q : P} {ps : List P} → R p q → InRow R (q ∷ ps) → InRow R (p ∷ q ∷ ps)
