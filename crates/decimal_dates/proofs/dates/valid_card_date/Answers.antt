-- `decimal_dates::dates::valid_card_date` meets its contract: each test is that of the definition, in its order.
-- Assumes nothing.
use mathlib.Core.Path.{refl, sym, ◌∙◌}
use borrow.Author.Tests.{eq-eqb, ne_eqb}
use Rattle.decimal_dates.specs.Dates.{valid_card_date}
use Rattle.slices.proofs.Tests.{held, failed, last}
use Rattle.decimal_dates.proofs.dates.valid_card_date.Goals as goal

pub returns-then-d-ne3 : goal.returns-then-d-ne3
unfolding valid_card_date
returns-then-d-ne3 c = let other = ne_eqb _ 3 c.if-d-ne3.true in sym (failed refl _ other ∙ other)

pub returns-then-digits_only : goal.returns-then-digits_only
unfolding valid_card_date
returns-then-digits_only c =
    sym
    (held refl _ (eq-eqb _ 3 c.if-d-ne3.false)
    ∙ (held c.digits_only.ensures _ c.if-digits_only.true ∙ last c.month_and_day.ensures))

pub returns-else-digits_only : goal.returns-else-digits_only
unfolding valid_card_date
returns-else-digits_only c =
    sym (held refl _ (eq-eqb _ 3 c.if-d-ne3.false) ∙ failed c.digits_only.ensures _ c.if-digits_only.false)
