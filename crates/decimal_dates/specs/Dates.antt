-- Dates YYMMDD, three bytes of two digits each: 01, "Terminal data (START, 74 bytes)" and "What the card must answer".
-- Assumes nothing.
use Rattle.std.specs.Prelude.{Bool, not, ◌&&◌, ◌||◌, List, [], ◌∷◌, ℕ, ◌+◌, ◌*◌, ◌%◌, eqb, ltb, length, get_or}
use Rattle.slices.specs.Choice.{pick}
use Rattle.slices.specs.Tests.{every, between}
use Rattle.decimal_dates.specs.Decimal.{two_digits, digits_only}

abbrev pub year : List ℕ → ℕ
year d = two_digits (get_or d 0 0)

abbrev pub month : List ℕ → ℕ
month d = two_digits (get_or d 1 0)

abbrev pub day : List ℕ → ℕ
day d = two_digits (get_or d 2 0)

-- the whole year that two digits stand for: 00-49 are 2000-2049, 50-99 are 1950-1999 (02, R-2)
abbrev pub whole_year : ℕ → ℕ
whole_year y = pick (ltb y 50) (2000 + y) (1900 + y)

-- what dates are ordered by: whole year, month and day (01, "From facts to a decision", as R-2 amends it)
unfoldable pub date_key : List ℕ → ℕ
date_key d = whole_year (year d) * 10000 + (month d * 100 + day d)

-- month 01-12, day 01-31, whatever the month
unfoldable pub month_and_day : List ℕ → Bool
month_and_day d = every (between 1 12 (month d) ∷ between 1 31 (day d) ∷ [])

-- Gregory's rule: every fourth year, but of the whole centuries only every fourth (02, R-5)
abbrev pub leap_year : ℕ → Bool
leap_year y = eqb (y % 4) 0 && (not (eqb (y % 100) 0) || eqb (y % 400) 0)

-- April, June, September, November
abbrev pub thirty_days : ℕ → Bool
thirty_days m = (eqb m 4 || eqb m 6) || (eqb m 9 || eqb m 11)

-- how many days a month of a year has
abbrev pub days_in : ℕ → ℕ → ℕ
days_in y m = pick (eqb m 2) (pick (leap_year y) 29 28) (pick (thirty_days m) 30 31)

-- START's date, whose digits are tested with those of the fields around it: a day that its month has, with the years of R-2
unfoldable pub valid_start_date : List ℕ → Bool
valid_start_date d = every (between 1 12 (month d) ∷ between 1 (days_in (whole_year (year d)) (month d)) (day d) ∷ [])

-- a card's dates, 5F24 and 5F25, whatever the month has (02, R-5: they keep 01's test)
unfoldable pub valid_card_date : List ℕ → Bool
valid_card_date d = every (eqb (length d) 3 ∷ digits_only d ∷ month_and_day d ∷ [])
