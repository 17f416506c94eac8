-- Nothing is sent after silence. Assumes nothing.
use mathlib.Core.Path.{◌≡◌, refl}
use mathlib.Core.List.{[]}
use Rattle.t1_state.specs.declared.Phase.{Phase}
use Rattle.t1_state.specs.declared.Phase.TheVariants.{Start, Asking, Due, Sent, Receiving, Over}
use Rattle.t1_state.specs.declared.State.{State}
use Rattle.t1_turns.specs.Turns.{silent_in, on_silence}
use Rattle.t1.specs.Steps.{sent_by}

pub silent_quiet : (s : State) → sent_by (on_silence s).act (on_silence s).state ≡ []
unfolding on_silence silent_in sent_by
silent_quiet s = quiet s.phase
  where
    quiet : (p : Phase) → sent_by (silent_in p s).act (silent_in p s).state ≡ []
    quiet Start = refl
    quiet Asking = refl
    quiet Due = refl
    quiet Sent = refl
    quiet Receiving = refl
    quiet Over = refl
