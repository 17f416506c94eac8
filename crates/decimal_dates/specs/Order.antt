-- The order of dates as the calendar has it. 02, R-2.
-- Assumes nothing.
use Rattle.std.specs.Prelude.{◌≡◌, List, ◌⊎◌, ℕ, ◌<◌}
use Rattle.decimal_dates.specs.Dates.{year, month, day, whole_year}

-- an earlier year; or the same year and an earlier month; or the same month too and an earlier day
abbrev pub Earlier : List ℕ → List ℕ → Type 0
Earlier a b =
    (whole_year (year a) < whole_year (year b))
    ⊎ ((whole_year (year a) ≡ whole_year (year b)) × ((month a < month b) ⊎ ((month a ≡ month b) × (day a < day b))))
