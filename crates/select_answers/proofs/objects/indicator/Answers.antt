-- `objects::indicator` meets its contract.
-- Assumes nothing.
use mathlib.Core.Path.{ap, ◌∙◌}
use mathlib.Core.List.{List}
use Prim.Native.Nat.{ℕ}
use lib.ListN.{get_or}
use Rattle.select_answers.specs.Objects.{indicator_of}
use Rattle.select_answers.proofs.objects.indicator.Goals as goal

pub returns : goal.returns
unfolding indicator_of
returns c =
    (c.byte.ensures.0 ∙ ap (λ (v : List ℕ). get_or v 0 0) c.value_in_checked.ensures, c.byte.ensures.1)
