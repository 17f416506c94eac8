-- `decimal_dates::dates::month_and_day` meets its contract: the numbers that it bounds are the date's month and day.
-- Assumes nothing.
use mathlib.Core.Path.{sym, ap, ◌∙◌}
use Rattle.slices.specs.Tests.{between}
use Rattle.decimal_dates.specs.Dates.{month_and_day}
use Rattle.slices.proofs.Tests.{held, failed, last}
use Rattle.decimal_dates.proofs.dates.month_and_day.Goals as goal

pub returns-then-between : goal.returns-then-between
unfolding month_and_day
returns-then-between c =
    let month = c.between.ensures ∙ ap (between 1 12) c.pair.ensures.0 in
    let day = c.between-then-between.ensures ∙ ap (between 1 31) c.pair-then-between.ensures.0 in
    sym (held month _ c.if-between.true ∙ last day)

pub returns-else-between : goal.returns-else-between
unfolding month_and_day
returns-else-between c =
    let month = c.between.ensures ∙ ap (between 1 12) c.pair.ensures.0 in
    sym (failed month _ c.if-between.false)
