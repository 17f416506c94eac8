-- The order of keys is the order of whole year, month and day: month and day of a decimal date have two digits each, so that neither
-- reaches into the place of the one before it. 02, R-2.
-- Assumes nothing.
use mathlib.Core.Path.{◌≡◌}
use mathlib.Core.Bool.{true}
use mathlib.Core.List.{List, [], ◌∷◌}
use mathlib.Core.Logic.{◌⊎◌, inl, inr, ⊎_elim}
use Prim.Native.Nat.{ℕ, ◌+◌, ◌*◌, ◌<◌, ◌≤◌}
use native.Mathlib.Omega.{arith}
use lib.Dec.{ltb}
use borrow.Author.Tests.{ltb-true, ltb-false}
use Rattle.slices.proofs.Choice.{either}
use Rattle.slices.proofs.Tests.{first_held}
use Rattle.decimal_dates.specs.Decimal.{decimal_byte, digits_only}
use Rattle.decimal_dates.specs.Dates.{year, month, day, whole_year, date_key}
use Rattle.decimal_dates.specs.Order.{Earlier}
use Rattle.decimal_dates.proofs.Digits.{two_digits_lem}

-- two numbers in three places, the later ones below 100
module _ (y m d y' m' d' : ℕ) (few : m ≤ 99) (less : d ≤ 99) (few' : m' ≤ 99) (less' : d' ≤ 99) where
  by_places : y * 10000 + (m * 100 + d) < y' * 10000 + (m' * 100 + d') → (y < y') ⊎ ((y ≡ y') × ((m < m') ⊎ ((m ≡ m') × (d < d'))))
  by_places h =
      either (ltb y y')
      (λ t. inl (ltb-true y y' t))
      (λ f.
      let ge = ltb-false y y' f in
      let same : y ≡ y' = omega (arith, h, ge) in
      inr (
        same,
        either (ltb m m')
            (λ t. inl (ltb-true m m' t))
            (λ g.
            let more = ltb-false m m' g in
            let months : m ≡ m' = omega (arith, h, same, more) in
            inr (months, omega (arith, h, same, months))),
      ))

  in_places : (y < y') ⊎ ((y ≡ y') × ((m < m') ⊎ ((m ≡ m') × (d < d')))) → y * 10000 + (m * 100 + d) < y' * 10000 + (m' * 100 + d')
  in_places h =
      ⊎_elim (λ t. omega (arith, t)) (λ s. ⊎_elim (λ t. omega (arith, s.0, t)) (λ u. omega (arith, s.0, u.0, u.1)) s.1) h

-- a date of two digits in each byte
module _ (a b c : ℕ) (e : digits_only (a ∷ b ∷ c ∷ []) ≡ true) where
  month_digits : month (a ∷ b ∷ c ∷ []) ≤ 99
  unfolding digits_only
  month_digits = two_digits_lem b (first_held (decimal_byte b) _ (first_held (decimal_byte a) _ e).1).0

  day_digits : day (a ∷ b ∷ c ∷ []) ≤ 99
  unfolding digits_only
  day_digits = two_digits_lem c (first_held (decimal_byte c) _ (first_held (decimal_byte b) _ (first_held (decimal_byte a) _ e).1).1).0

-- for all decimal dates, both ways
module _ (a b c : ℕ) (e : digits_only (a ∷ b ∷ c ∷ []) ≡ true) (x y z : ℕ) (f : digits_only (x ∷ y ∷ z ∷ []) ≡ true) where
  abbrev one : List ℕ
  one = a ∷ b ∷ c ∷ []

  abbrev other : List ℕ
  other = x ∷ y ∷ z ∷ []

  pub key_earlier : date_key one < date_key other → Earlier one other
  unfolding date_key
  key_earlier h =
      by_places (whole_year (year one)) (month one) (day one) (whole_year (year other)) (month other) (day other) (month_digits a b c e)
      (day_digits a b c e)
      (month_digits x y z f) (day_digits x y z f) h

  pub earlier_key : Earlier one other → date_key one < date_key other
  unfolding date_key
  earlier_key h =
      in_places (whole_year (year one)) (month one) (day one) (whole_year (year other)) (month other) (day other) (month_digits a b c e)
      (day_digits a b c e)
      (month_digits x y z f) (day_digits x y z f) h
