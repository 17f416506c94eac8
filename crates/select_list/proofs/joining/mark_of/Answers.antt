-- `joining::mark_of` meets its contract.
-- Assumes nothing.
use mathlib.Core.Path.{◌≡◌, sym, ap₂, ◌∙◌}
use Prim.Native.Nat.{ℕ, ◌+◌}
use native.Mathlib.Omega.{arith}
use borrow.Author.Tests.{le-leb, lt-leb}
use Rattle.slices.proofs.Choice.{pick_yes, pick_no}
use Rattle.select_list.specs.Order.{confirms}
use Rattle.select_list.specs.Steps.{mark_of}
use Rattle.select_list.proofs.joining.mark_of.Goals as goal

pub returns-then-indicator-ge128 : goal.returns-then-indicator-ge128
unfolding mark_of confirms
returns-then-indicator-ge128 c =
    ap₂ (λ (a b : ℕ). a + b) c.standing-n.ensures.0 (sym (pick_yes _ _ _ (le-leb _ _ c.if-indicator-ge128.true)))

pub returns-else-indicator-ge128 : goal.returns-else-indicator-ge128
unfolding mark_of confirms
returns-else-indicator-ge128 c =
    let n = c.standing-n.result in
    let e : n ≡ n + 0 = omega arith in
    e ∙ ap₂ (λ (a b : ℕ). a + b) c.standing-n.ensures.0 (sym (pick_no _ _ _ (lt-leb _ _ c.if-indicator-ge128.false)))
