-- `directory::is_entry_right` meets its contract: an application's entry by its objects, another by 9D.
-- Assumes nothing.
use mathlib.Core.Path.{sym, ap, ◌∙◌}
use mathlib.Core.Bool.{not}
use Prim.Native.Nat.{ℕ}
use lib.Dec.{eqb}
use Rattle.slices.proofs.Choice.{pick_yes, pick_no}
use Rattle.slices.proofs.Tests.{held, failed, last}
use Rattle.select_answers.specs.Directory.{entry_right}
use Rattle.select_answers.proofs.directory.is_entry_right.Goals as goal

pub returns-then-is_name : goal.returns-then-is_name
unfolding entry_right
returns-then-is_name c =
    sym (pick_yes _ _ _ (sym c.is_named.ensures ∙ c.if-is_named.true)
    ∙ (held c.is_name.ensures _ c.if-is_name.true ∙ last c.is_indicator.ensures))

pub returns-else-is_name : goal.returns-else-is_name
unfolding entry_right
returns-else-is_name c =
    sym (pick_yes _ _ _ (sym c.is_named.ensures ∙ c.if-is_named.true)
    ∙ failed c.is_name.ensures _ c.if-is_name.false)

pub returns-else-is_named : goal.returns-else-is_named
unfolding entry_right
returns-else-is_named c =
    sym (pick_no _ _ _ (sym c.is_named.ensures ∙ c.if-is_named.false)
    ∙ ap (λ (n : ℕ). not (eqb n 0)) (sym c.times_in_checked.ensures))
