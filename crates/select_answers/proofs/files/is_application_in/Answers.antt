-- `files::is_application_in` meets its contract: the tests in their order.
-- Assumes nothing.
use mathlib.Core.Path.{sym, ap, ◌∙◌}
use mathlib.Core.Bool.{not}
use Prim.Native.Nat.{ℕ}
use lib.Dec.{eqb}
use borrow.Author.Tests.{eq-eqb, ne_eqb}
use Rattle.slices.proofs.Tests.{held, failed, passed, refused, last}
use Rattle.select_answers.specs.Files.{application_right}
use Rattle.select_answers.proofs.files.is_application_in.Goals as goal

pub returns-then-not-is_name : goal.returns-then-not-is_name
unfolding application_right
returns-then-not-is_name c = sym (refused c.is_name.ensures _ (ap not c.if-not-is_name.true))

pub returns-then-times_in_checked-ne1 : goal.returns-then-times_in_checked-ne1
unfolding application_right
returns-then-times_in_checked-ne1 c =
    let once' = ap (λ (n : ℕ). eqb n 1) c.times_in_checked.ensures in
    sym (passed c.is_name.ensures _ (ap not c.if-not-is_name.false)
    ∙ (failed once' _ (ne_eqb _ _ c.if-times_in_checked-ne1.true) ∙ ne_eqb _ _ c.if-times_in_checked-ne1.true))

pub returns-then-is_indicator : goal.returns-then-is_indicator
unfolding application_right
returns-then-is_indicator c =
    let once' = ap (λ (n : ℕ). eqb n 1) c.times_in_checked.ensures in
    sym (passed c.is_name.ensures _ (ap not c.if-not-is_name.false)
    ∙ (held once' _ (eq-eqb _ _ c.if-times_in_checked-ne1.false)
    ∙ (held c.is_indicator.ensures _ c.if-is_indicator.true
    ∙ last (ap (λ (n : ℕ). not (eqb n 2)) c.times_in_checked-then-is_indicator.ensures))))

pub returns-else-is_indicator : goal.returns-else-is_indicator
unfolding application_right
returns-else-is_indicator c =
    let once' = ap (λ (n : ℕ). eqb n 1) c.times_in_checked.ensures in
    sym (passed c.is_name.ensures _ (ap not c.if-not-is_name.false)
    ∙ (held once' _ (eq-eqb _ _ c.if-times_in_checked-ne1.false)
    ∙ failed c.is_indicator.ensures _ c.if-is_indicator.false))
