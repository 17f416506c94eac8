-- The dates of a year, counted: 02, R-5.
-- Assumes nothing.
use Rattle.std.specs.Prelude.{[], ◌∷◌, ℕ, zero, suc, ◌+◌, ◌*◌, ◌/◌, ◌%◌}
use Rattle.slices.specs.Choice.{pick}
use Rattle.decimal_dates.specs.Dates.{valid_start_date}

-- the byte that holds a number below 100 as two digits
abbrev pub in_digits : ℕ → ℕ
in_digits n = n / 10 * 16 + n % 10

-- how many of a month's days below a number are good in a START, the year's byte given
abbrev pub good_days : ℕ → ℕ → ℕ → ℕ
good_days y m zero = 0
good_days y m (suc n) = pick (valid_start_date (y ∷ in_digits m ∷ in_digits n ∷ [])) 1 0 + good_days y m n

-- and of all months below a number, with every day that two digits can name
abbrev pub good_dates : ℕ → ℕ → ℕ
good_dates y zero = 0
good_dates y (suc m) = good_days y m 100 + good_dates y m
