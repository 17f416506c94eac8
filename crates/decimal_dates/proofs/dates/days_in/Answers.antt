-- `decimal_dates::dates::days_in` meets its contract: February by the year, the others by their name.
-- Assumes nothing.
use mathlib.Core.Path.{sym, ◌∙◌}
use borrow.Author.Tests.{eq-eqb, ne_eqb}
use Rattle.slices.proofs.Choice.{pick_yes, pick_no}
use Rattle.decimal_dates.proofs.dates.days_in.Goals as goal

pub returns-then-leap_year : goal.returns-then-leap_year
returns-then-leap_year c = sym (pick_yes _ _ _ (eq-eqb _ _ c.if-m-eq2.true)
    ∙ pick_yes _ _ _ (sym c.leap_year.ensures ∙ c.if-leap_year.true))

pub returns-else-leap_year : goal.returns-else-leap_year
returns-else-leap_year c =
    sym (pick_yes _ _ _ (eq-eqb _ _ c.if-m-eq2.true) ∙ pick_no _ _ _ (sym c.leap_year.ensures ∙ c.if-leap_year.false))

pub returns-then-thirty_days : goal.returns-then-thirty_days
returns-then-thirty_days c =
    sym (pick_no _ _ _ (ne_eqb _ _ c.if-m-eq2.false) ∙ pick_yes _ _ _ (sym c.thirty_days.ensures ∙ c.if-thirty_days.true))

pub returns-else-thirty_days : goal.returns-else-thirty_days
returns-else-thirty_days c =
    sym (pick_no _ _ _ (ne_eqb _ _ c.if-m-eq2.false) ∙ pick_no _ _ _ (sym c.thirty_days.ensures ∙ c.if-thirty_days.false))
