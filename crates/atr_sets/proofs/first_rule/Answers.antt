-- `first_rule` meets its contract. The loop's invariant: the lowest of the bits that are left is the lowest of all.
-- Assumes nothing.
use mathlib.Core.Path.{sym, ◌∙◌}
use native.Mathlib.Omega.{arith}
use borrow.Author.Tests.{ne_eqb}
use Rattle.slices.proofs.Choice.{pick_no}
use Rattle.atr_sets.proofs.Firsts.{lowest_on}
use Rattle.atr_sets.proofs.first_rule.Goals as goal

pub loop-k-preserved : goal.loop-k-preserved
loop-k-preserved c =
    let l = c.loop-k in
    sym (lowest_on l.k l.left (omega arith) ∙ pick_no _ _ _ (ne_eqb _ 1 c.if-left-eq1.false)) ∙ l.invariant
