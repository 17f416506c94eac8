-- What it means that a state stands where the rulebook does. A state keeps what the answer depends on; what went into a command alone it
-- does not keep, so that is left out of the comparison.
-- Assumes nothing.
use Rattle.std.specs.Prelude.{◌≡◌, true, []}
use Rattle.rulebook.specs.Phase.{Asked, selecting, optioning, reading, first, second, terminal, says}
use Rattle.rulebook.specs.Phase.{Phase, asks, hears, decides, tvr_of, tsi_of}
use Rattle.rulebook.specs.Machine.{Machine, at, owes, done}
use Rattle.session_phase.specs.Waiting.{is_decided}
use Rattle.session_state.specs.Reading.{late, asked_by}
use Rattle.session_state.specs.declared.State.{State}
use Rattle.session_moves.specs.Moves.{question_of, kept_as}

-- what was asked, without what only the command needed: the list 9F38, the record's number and file, the response code
unfoldable pub forgets : Asked → Asked
forgets (selecting z) = selecting z
forgets (optioning z list) = optioning z []
forgets (reading z number file rest) = reading z 0 0 rest
forgets (first z request) = first z request
forgets (second z request code) = second z request []

-- what a phase knows can be read off the state; before START, and of a decision, nothing more is known
unfoldable pub Knows : State → Phase → Type 0
Knows s (asks w) = asked_by (question_of w) s ≡ forgets w
Knows s (hears terminal) = Unit {0}
Knows s (hears (says word z)) = late s ≡ z
Knows s (decides outcome reason z) = Unit {0}

-- a state that waits for what a phase waits for, has the phase's TVR and TSI, and knows what the phase knows
pub record StandsAt (s : State) (p : Phase) : Type 0 where
  pub waits : s.waiting ≡ kept_as p
  pub tvr : s.tvr ≡ tvr_of p
  pub tsi : s.tsi ≡ tsi_of p
  pub knows : Knows s p

-- the same of the machine that reads entries: a state keeps the phase, not whether its command or its decision was read yet
unfoldable pub Agrees : State → Machine → Type 0
Agrees s (at p) = StandsAt s p
Agrees s (owes w) = StandsAt s (asks w)
Agrees s done = is_decided s.waiting ≡ true
