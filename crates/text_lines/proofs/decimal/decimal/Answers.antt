-- `decimal::decimal` meets its contract. The loop's invariant: n with the digits that are left is the number of the whole text.
-- Assumes nothing.
use mathlib.Core.Path.{refl, sym, ◌∙◌}
use native.Mathlib.Omega.{arith}
use Rattle.slices.proofs.Choice.{pick_yes, pick_no}
use Rattle.text_lines.specs.Decimal.{number_in}
use Rattle.text_lines.proofs.ByDigits.{number_next, number_stop, number_end}
use Rattle.text_lines.proofs.decimal.decimal.Goals as goal

pub returns-then-is_empty : goal.returns-then-is_empty
unfolding number_in
returns-then-is_empty c = (sym (pick_yes _ _ _ (sym c.is_empty.ensures ∙ c.if-is_empty.true)), omega arith)

pub loop-b-init : goal.loop-b-init
loop-b-init c = (omega arith, refl)

pub returns-then-d-ge10 : goal.returns-then-d-ge10
unfolding number_in
returns-then-d-ge10 c =
    let l = c.loop-b in (
      sym (pick_no _ _ _ (sym c.is_empty.ensures ∙ c.if-is_empty.false)
          ∙ (sym l.invariant.1 ∙ number_stop l.n _ l.b-index _ c.digit_of-d.ensures.0 (omega arith) (λ h k. omega arith))),
      omega arith,
    )

pub returns-then-more-ge-NO_NUMBER : goal.returns-then-more-ge-NO_NUMBER
unfolding number_in
returns-then-more-ge-NO_NUMBER c =
    let l = c.loop-b in (
      sym (pick_no _ _ _ (sym c.is_empty.ensures ∙ c.if-is_empty.false)
          ∙ (sym l.invariant.1 ∙ number_stop l.n _ l.b-index _ c.digit_of-d.ensures.0 (omega arith) (λ h k. omega arith))),
      omega arith,
    )

pub loop-b-preserved : goal.loop-b-preserved
loop-b-preserved c =
    let l = c.loop-b in
    (omega arith, sym (number_next l.n _ l.b-index _ c.digit_of-d.ensures.0 (omega arith) (omega arith) (omega arith)) ∙ l.invariant.1)

pub returns : goal.returns
unfolding number_in
returns c =
    let l = c.loop-b in (
      sym (pick_no _ _ _ (sym c.is_empty.ensures ∙ c.if-is_empty.false) ∙ (sym l.invariant.1
          ∙ number_end l.n _ l.b-index (omega arith))),
      omega arith,
    )
