-- What a state says of the outcome.
-- Assumes nothing.
use Rattle.std.specs.Prelude.{List, ◌∷◌, ◌++◌, ℕ}
use Rattle.session_phase.specs.Waiting.{outcome_of, reason_of}
use Rattle.session_state.specs.declared.State.{State}

-- DECISION's nine bytes; with no decision yet the outcome is 0
unfoldable pub decision_in : State → List ℕ
decision_in s = outcome_of s.waiting ∷ reason_of s.waiting ∷ (s.tvr ++ s.tsi)
