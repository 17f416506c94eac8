-- `ends::hear` meets its contract: the word's own kind is due.
-- Assumes nothing.
use mathlib.Core.Path.{ap, ◌∙◌}
use Prim.Native.Nat.{ℕ}
use Rattle.session_phase.specs.declared.Speaker.TheVariants.{Says}
use Rattle.session_phase.specs.declared.Waiting.TheVariants.{ForWord}
use Rattle.session_phase.specs.declared.Reply.TheVariants.{Due}
use Rattle.session_moves.specs.Moves.{waiting_for}
use Rattle.session_moves.proofs.ends.hear.Goals as goal

pub returns : goal.returns
returns c =
    let args = c.args in
    c.wait.ensures ∙ ap (λ (k : ℕ). waiting_for (ForWord (Says args.word args.count)) (Due k) args.s) c.kind.ensures
