-- `objects::is_name` meets its contract: what is missing, or there twice, has no value.
-- Assumes nothing.
use mathlib.Core.Path.{ap, ◌∙◌}
use mathlib.Core.List.{List}
use Prim.Native.Nat.{ℕ}
use lib.ListN.{length}
use Rattle.slices.specs.Tests.{between}
use Rattle.select_answers.proofs.Values.{name_value}
use Rattle.select_answers.proofs.objects.is_name.Goals as goal

pub returns : goal.returns
returns c =
    c.between.ensures ∙ (ap (λ (v : List ℕ). between 5 16 (length v)) c.value_in_checked.ensures ∙ name_value _)
