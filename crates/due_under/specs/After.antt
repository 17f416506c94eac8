-- What is due after some entries. `DueAfter` says it over the sessions that begin with them. `due_after` finds it with the machine of the
-- rules, and nobody need believe that: it finds what `DueAfter` says, and nothing else (proofs/After).
-- Assumes nothing.
use Rattle.std.specs.Prelude.{◌≡◌, List, ℕ}
use Rattle.std.proofs.Math.Option.{Option, none, some}
use Rattle.tape_read.specs.Entries.{Entry}
use Rattle.sessions.specs.Rules.{Phase, asks, hears, decides, Rules}
use Rattle.sessions.specs.Session.{Beginning, AwaitsCard, LeadsTo}
use Rattle.sessions.specs.Machine.{Machine, at, owes, done, run}
use Rattle.due_under.specs.Due.{Due, asking, answering, saying, deciding, nothing}

module _ {Asked Heard Situation : Type 0} (rules : Rules Asked Heard Situation) where
  open rules use {opens, command_of, decision_of}

  -- an unfinished beginning, in this phase
  unfoldable pub StandsIn : List Entry → Phase Asked Heard Situation → Type 0
  StandsIn es p = Beginning rules es × LeadsTo rules es p

  pub data DueAfter (es : List Entry) : Due Heard → Type 0 where
    -- in a phase that asks, as long as the card is not waited for
    command_due_lem : (w : Asked) {c : List ℕ} → c ≡ command_of w → StandsIn es (asks w) → (AwaitsCard rules es → ⊥)
        → DueAfter es (asking c)
    answer_due : AwaitsCard rules es → DueAfter es answering
    word_due_lem : {h : Heard} → StandsIn es (hears h) → DueAfter es (saying h)
    decision_due_lem : (outcome reason : ℕ) (s : Situation) {d : List ℕ} → d ≡ decision_of outcome reason s
        → StandsIn es (decides outcome reason s) → DueAfter es (deciding d)
    nothing_due : (Beginning rules es → ⊥) → DueAfter es nothing

  -- what is due in a state of the machine
  unfoldable pub due_at : Machine Asked Heard Situation → Due Heard
  due_at (at (asks w)) = asking (command_of w)
  due_at (at (hears h)) = saying h
  due_at (at (decides outcome reason s)) = deciding (decision_of outcome reason s)
  due_at (owes w) = answering
  due_at done = nothing

  unfoldable pub due_in : Option (Machine Asked Heard Situation) → Due Heard
  due_in none = nothing
  due_in (some σ) = due_at σ

  unfoldable pub due_after : List Entry → Due Heard
  due_after es = due_in (run rules es (at opens))
