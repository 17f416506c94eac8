-- `decimal_dates::dates::date_key` meets its contract: whole year, month and day are put together as the key has them.
-- Assumes nothing.
use mathlib.Core.Path.{ap, ◌∙◌}
use Prim.Native.Nat.{◌+◌, ◌*◌}
use Rattle.decimal_dates.specs.Dates.{whole_year, date_key}
use Rattle.decimal_dates.proofs.dates.date_key.Goals as goal

pub returns : goal.returns
unfolding date_key
returns c =
    let year = c.whole_year.ensures.0 ∙ ap whole_year c.pair.ensures.0 in
    λ i. year i * 10000 + (c.pair-2.ensures.0 i * 100 + c.pair-3.ensures.0 i)
