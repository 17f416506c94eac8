-- No bit of TVR or TSI is cleared. Demand 2.
-- Assumes nothing.
use Rattle.std.specs.Prelude.{◌≡◌}
use Rattle.decide_tvr.specs.Bits.{joined}
use Rattle.rulebook.specs.Phase.{opens, tvr_of, tsi_of}
use Rattle.session_phase.specs.declared.Speaker.TheVariants.{Terminal}
use Rattle.session_phase.specs.declared.Waiting.TheVariants.{ForWord}
use Rattle.session_state.specs.declared.State.{State}

-- every bit that is set in one state is set in another
pub record Keeps (s t : State) : Type 0 where
  pub tvr : joined s.tvr t.tvr ≡ t.tvr
  pub tsi : joined s.tsi t.tsi ≡ t.tsi

-- before START both are zeros, as the rulebook has them there
abbrev pub Even : State → Type 0
Even s = s.waiting ≡ ForWord Terminal → (s.tvr ≡ tvr_of opens) × (s.tsi ≡ tsi_of opens)
