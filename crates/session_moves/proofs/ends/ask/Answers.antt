-- `ends::ask` meets its contract: a command is out, and only what is waited for is another.
-- Assumes nothing.
use mathlib.Core.Path.{ap}
use Rattle.session_state.specs.declared.State.{State}
use Rattle.session_phase.specs.declared.Reply.TheVariants.{Command}
use Rattle.session_moves.specs.Moves.{asked_for}
use Rattle.session_moves.proofs.ends.ask.Goals as goal

pub returns : goal.returns
unfolding asked_for
returns c =
    let a = c.args in
    ap (λ (x : State). record { state = x; reply = Command a.n; zeros = a.zeros }) c.change.ensures
