-- `ends::wait` meets its contract: only what is waited for is another.
-- Assumes nothing.
use mathlib.Core.Path.{ap}
use Rattle.session_state.specs.declared.State.{State}
use Rattle.session_moves.specs.Moves.{waiting_for}
use Rattle.session_moves.proofs.ends.wait.Goals as goal

pub returns : goal.returns
unfolding waiting_for
returns c = ap (λ (x : State). record { state = x; reply = c.args.reply; zeros = 0 }) c.change.ensures
