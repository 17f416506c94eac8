-- START's dates are those of the calendar: a year has as many as it should, none that 01 refused is among them, and with the years of
-- R-2 a leap year is every fourth. 02, R-5.
-- Assumes nothing.
use mathlib.Core.Path.{◌≡◌, refl, ◌∙◌}
use mathlib.Core.Bool.{Bool, true, false, ◌&&◌}
use mathlib.Core.List.{List, [], ◌∷◌, map}
use Prim.Native.Nat.{ℕ, ◌≤◌, ◌%◌}
use native.Mathlib.Omega.{arith}
use lib.Dec.{eqb, leb}
use borrow.Author.Tests.{eqb-true, leb-true, le-leb}
use Rattle.slices.specs.Choice.{pick}
use Rattle.slices.specs.Tests.{every, between}
use Rattle.slices.proofs.Choice.{either, picked}
use Rattle.slices.proofs.Tests.{held, last, first_held}
use Rattle.decimal_dates.specs.Dates.{year, month, day, whole_year, month_and_day, leap_year, thirty_days, days_in, valid_start_date}
use Rattle.decimal_dates.specs.Calendar.{good_dates}

-- of all that two digits can name: a common year, a leap year, and 2000, which is one too
pub counted : map (λ y. good_dates y 100) (0x23 ∷ 0x24 ∷ 0x00 ∷ []) ≡ 365 ∷ 366 ∷ 366 ∷ []
unfolding valid_start_date every between pick
counted = refl

-- the leap days of 2000, 1952 and 1996; those of 1950, 2049 and 2001, which are none; 30 February and 31 April
abbrev dates : List (List ℕ × Bool)
dates =
    (0 ∷ 2 ∷ 0x29 ∷ [], true) ∷ (0x52 ∷ 2 ∷ 0x29 ∷ [], true) ∷ (0x96 ∷ 2 ∷ 0x29 ∷ [], true)
    ∷ (0x50 ∷ 2 ∷ 0x29 ∷ [], false) ∷ (0x49 ∷ 2 ∷ 0x29 ∷ [], false) ∷ (1 ∷ 2 ∷ 0x29 ∷ [], false)
    ∷ (0x23 ∷ 2 ∷ 0x30 ∷ [], false) ∷ (0x23 ∷ 4 ∷ 0x31 ∷ [], false) ∷ (0x23 ∷ 4 ∷ 0x30 ∷ [], true) ∷ (0x23 ∷ 0x12 ∷ 0x31 ∷ [], true)
    ∷ []

dates_judged : map (λ row. valid_start_date row.0) dates ≡ map (λ row. row.1) dates
unfolding valid_start_date every between pick
dates_judged = refl

-- no month has more than 31 days
most_days : (y m : ℕ) → days_in y m ≤ 31
most_days y m =
    picked (λ n. n ≤ 31) (eqb m 2) _ _
    (λ e. picked (λ n. n ≤ 31) (leap_year y) 29 28 (λ f. omega arith) (λ f. omega arith))
    (λ e. picked (λ n. n ≤ 31) (thirty_days m) 30 31 (λ f. omega arith) (λ f. omega arith))

-- every date that is good now was good before
pub good_before : (d : List ℕ) → valid_start_date d ≡ true → month_and_day d ≡ true
unfolding valid_start_date month_and_day between
good_before d e =
    let both = first_held (between 1 12 (month d)) _ e in
    let days = (first_held _ _ both.1).0 in
    let low = first_held (leb 1 (day d)) _ days in
    let high = leb-true (day d) _ (first_held (leb (day d) _) _ low.1).0 in
    let within = le-leb (day d) 31 (omega (arith, high, most_days (whole_year (year d)) (month d))) in
    held refl _ both.0 ∙ (last refl ∙ (held refl _ low.0 ∙ (last refl ∙ within)))

and_true : (b : Bool) → (b && true) ≡ b
and_true true = refl
and_true false = refl

-- with the years of R-2 Gregory's rule is every fourth year
pub every_fourth : (y : ℕ) → 1950 ≤ y → y ≤ 2049 → leap_year y ≡ eqb (y % 4) 0
every_fourth y above below =
    either (eqb (y % 100) 0)
    (λ whole.
    let even = eqb-true (y % 100) 0 whole in
    let this : y ≡ 2000 = omega (arith, even, above, below) in
    rw this)
    (λ other. rw other (and_true (eqb (y % 4) 0)))
