-- Rules as a machine that reads one entry at a time: at each state at most one entry kind is due, and its payload settles the next state.
-- It is derived from the same transition as the sessions, and nobody need believe it: that a list of entries is a session exactly where
-- the machine ends on it is proved (proofs/Running).
-- Assumes nothing.
use Rattle.std.specs.Prelude.{Bool, ◌&&◌, List, [], ◌∷◌, ℕ, eqb}
use Rattle.std.proofs.Math.Option.{Option, none, some}
use Rattle.slices.specs.Choice.{pick}
use Rattle.slices.specs.Tests.{alike}
use Rattle.numbers.specs.Tables.{command, answer, decision}
use Rattle.tape_read.specs.Entries.{Entry}
use Rattle.sessions.specs.Rules.{Phase, asks, hears, decides, Rules}
use Rattle.sessions.specs.Session.{is_payload}

-- a phase, or a command that was sent and awaits its answer, or the end
pub data Machine (Asked Heard Situation : Type 0) : Type 0 where
  at : Phase Asked Heard Situation → Machine Asked Heard Situation
  owes : Asked → Machine Asked Heard Situation
  done : Machine Asked Heard Situation

-- an entry of a kind, where its payload passes a test
unfoldable pub due : ℕ → Bool → Entry → Bool
due kind test e = eqb e.kind kind && test

-- one state on, where there is a state
unfoldable pub and_on : {A H S : Type 0} → (Machine A H S → Option (Machine A H S)) → Option (Machine A H S) → Option (Machine A H S)
and_on f none = none
and_on f (some σ) = f σ

module _ {A H S : Type 0} (rules : Rules A H S) where
  open rules use {command_of, turn, due_kind, allowed, after, decision_of}

  -- what may be said, in a payload that a tape can hold
  unfoldable pub sayable : H → List ℕ → Bool
  sayable h p = allowed h p && is_payload p

  -- the state after an entry; none where the entry cannot be
  unfoldable pub next : Machine A H S → Entry → Option (Machine A H S)
  next (at (asks w)) e = pick (due command (alike e.payload (command_of w)) e) (some (owes w)) none
  next (at (hears h)) e = pick (due (due_kind h) (sayable h e.payload) e) (some (at (after h e.payload))) none
  next (at (decides outcome reason s)) e = pick (due decision (alike e.payload (decision_of outcome reason s)) e) (some done) none
  next (owes w) e = pick (due answer (is_payload e.payload) e) (some (at (turn w e.payload))) none
  next done e = none

  -- the state after several entries
  unfoldable pub run : List Entry → Machine A H S → Option (Machine A H S)
  run [] σ = some σ
  run (e ∷ es) σ = and_on (run es) (next σ e)
