-- `joining::standing` meets its contract.
-- Assumes nothing.
use mathlib.Core.Path.{sym, ap, ◌∙◌}
use mathlib.Core.Bool.{Bool}
use Prim.Native.Nat.{ℕ, ◌+◌}
use native.Mathlib.Omega.{arith}
use borrow.Author.Tests.{le-leb, lt-leb}
use Rattle.select_list.specs.Order.{confirms, standing_of}
use Rattle.select_list.proofs.Standing.{standing_chosen, standing_confirmed, standing_free}
use Rattle.select_list.proofs.joining.standing.Goals as goal

pub returns-then-choice : goal.returns-then-choice
returns-then-choice c =
    let a = c.args in
    let can = ap (λ (t : Bool). standing_of t a.indicator) c.if-choice.true in
    (c.priority-n.ensures.0 ∙ sym (can ∙ standing_chosen a.indicator), omega (arith, c.priority-n.ensures.1))

pub returns-then-indicator-ge128 : goal.returns-then-indicator-ge128
unfolding confirms
returns-then-indicator-ge128 c =
    let a = c.args in
    let cannot = ap (λ (t : Bool). standing_of t a.indicator) c.if-choice.false in (
      ap (λ (n : ℕ). n + 32) c.priority-n.ensures.0
          ∙ sym (cannot ∙ standing_confirmed a.indicator (le-leb _ _ c.if-indicator-ge128.true)),
      omega (arith, c.priority-n.ensures.1),
    )

pub returns-else-indicator-ge128 : goal.returns-else-indicator-ge128
unfolding confirms
returns-else-indicator-ge128 c =
    let a = c.args in
    let cannot = ap (λ (t : Bool). standing_of t a.indicator) c.if-choice.false in (
      c.priority-n.ensures.0 ∙ sym (cannot ∙ standing_free a.indicator (lt-leb _ _ c.if-indicator-ge128.false)),
      omega (arith, c.priority-n.ensures.1),
    )
