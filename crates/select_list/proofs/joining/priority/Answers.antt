-- `joining::priority` meets its contract.
-- Assumes nothing.
use mathlib.Core.Path.{sym}
use native.Mathlib.Omega.{arith}
use borrow.Author.Tests.{eq-eqb, ne_eqb}
use Rattle.slices.proofs.Choice.{pick_yes, pick_no}
use Rattle.select_list.specs.Order.{priority}
use Rattle.select_list.proofs.joining.priority.Goals as goal

pub returns-then-b-eq0 : goal.returns-then-b-eq0
unfolding priority
returns-then-b-eq0 c = (sym (pick_yes _ _ _ (eq-eqb _ _ c.if-b-eq0.true)), omega arith)

pub returns-else-b-eq0 : goal.returns-else-b-eq0
unfolding priority
returns-else-b-eq0 c = (sym (pick_no _ _ _ (ne_eqb _ _ c.if-b-eq0.false)), omega arith)
