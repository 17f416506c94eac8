-- `decimal_dates::dates::valid_start_date` meets its contract: the month is bounded by twelve, the day by what that month has.
-- Assumes nothing.
use mathlib.Core.Path.{sym, ap, ap₂, ◌∙◌}
use Rattle.slices.specs.Tests.{between}
use Rattle.decimal_dates.specs.Dates.{whole_year, days_in, valid_start_date}
use Rattle.slices.proofs.Tests.{held, failed, last}
use Rattle.decimal_dates.proofs.dates.valid_start_date.Goals as goal

pub returns-then-between : goal.returns-then-between
unfolding valid_start_date
returns-then-between c =
    let month = c.pair-month.ensures.0 in
    let months = c.between.ensures ∙ ap (between 1 12) month in
    let year = c.whole_year.ensures.0 ∙ ap whole_year c.pair.ensures.0 in
    let most = c.days_in.ensures ∙ ap₂ days_in year month in
    let days = c.between-then-between.ensures ∙ ap₂ (between 1) most c.pair-then-between.ensures.0 in
    sym (held months _ c.if-between.true ∙ last days)

pub returns-else-between : goal.returns-else-between
unfolding valid_start_date
returns-else-between c =
    let months = c.between.ensures ∙ ap (between 1 12) c.pair-month.ensures.0 in
    sym (failed months _ c.if-between.false)
