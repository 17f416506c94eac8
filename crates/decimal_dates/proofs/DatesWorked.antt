-- Dates judged and ordered, each limit from both sides. Everything here is computed. Assumes nothing.
use mathlib.Core.Path.{◌≡◌, refl}
use mathlib.Core.Bool.{Bool, true, false}
use mathlib.Core.List.{List, [], ◌∷◌, map}
use Prim.Native.Nat.{ℕ}
use lib.Dec.{ltb}
use Rattle.slices.specs.Choice.{pick}
use Rattle.slices.specs.Tests.{every, between}
use Rattle.decimal_dates.specs.Decimal.{decimal_byte, digits_only}
use Rattle.decimal_dates.specs.Dates.{date_key, month_and_day, valid_card_date}

-- a card's date, and whether it is valid
abbrev dates : List (List ℕ × Bool)
dates =
    (0x25 ∷ 0x12 ∷ 0x31 ∷ [], true) ∷ (0 ∷ 1 ∷ 1 ∷ [], true) ∷ (0x23 ∷ 2 ∷ 0x30 ∷ [], true)
    ∷ (0x25 ∷ 0 ∷ 0x31 ∷ [], false) ∷ (0x25 ∷ 0x13 ∷ 0x31 ∷ [], false) ∷ (0x25 ∷ 0x12 ∷ 0 ∷ [], false) ∷ (0x25 ∷ 0x12 ∷ 0x32 ∷ [], false)
    ∷ (0xA0 ∷ 0x12 ∷ 0x31 ∷ [], false) ∷ (0x25 ∷ 0x0A ∷ 0x31 ∷ [], false) ∷ (0x25 ∷ 0x12 ∷ 0x1F ∷ [], false)
    ∷ ([], false) ∷ (0x25 ∷ 0x12 ∷ [], false) ∷ (0x25 ∷ 0x12 ∷ 0x31 ∷ 0 ∷ [], false)
    ∷ []

dates_judged : map (λ row. valid_card_date row.0) dates ≡ map (λ row. row.1) dates
unfolding valid_card_date every pick between digits_only decimal_byte month_and_day
dates_judged = refl

keys : map date_key ((0x25 ∷ 0x12 ∷ 0x31 ∷ []) ∷ (0 ∷ 1 ∷ 1 ∷ []) ∷ (0x99 ∷ 0x12 ∷ 0x31 ∷ []) ∷ []) ≡ 20251231 ∷ 20000101 ∷ 19991231 ∷ []
unfolding date_key pick
keys = refl

-- two dates, and whether the first lies before the second (02, R-2): a case on each side of the border at 50, where six digits say the
-- opposite; the turn of the century; the same year; a date that no calendar has; and equal dates
abbrev pairs : List ((List ℕ × List ℕ) × Bool)
pairs =
    ((0x49 ∷ 0x12 ∷ 0x31 ∷ [], 0x50 ∷ 1 ∷ 1 ∷ []), false) ∷ ((0x50 ∷ 1 ∷ 1 ∷ [], 0x49 ∷ 0x12 ∷ 0x31 ∷ []), true)
    ∷ ((0x99 ∷ 0x12 ∷ 0x31 ∷ [], 0x20 ∷ 1 ∷ 1 ∷ []), true) ∷ ((0x20 ∷ 1 ∷ 1 ∷ [], 0x99 ∷ 0x12 ∷ 0x31 ∷ []), false)
    ∷ ((0x99 ∷ 0x12 ∷ 0x31 ∷ [], 0 ∷ 1 ∷ 1 ∷ []), true) ∷ ((0x50 ∷ 1 ∷ 1 ∷ [], 0x51 ∷ 1 ∷ 1 ∷ []), true)
    ∷ ((0x48 ∷ 1 ∷ 1 ∷ [], 0x49 ∷ 1 ∷ 1 ∷ []), true) ∷ ((0x23 ∷ 2 ∷ 0x31 ∷ [], 0x23 ∷ 3 ∷ 1 ∷ []), true)
    ∷ ((0x25 ∷ 6 ∷ 0x30 ∷ [], 0x25 ∷ 6 ∷ 0x30 ∷ []), false)
    ∷ []

pairs_ordered : map (λ row. ltb (date_key row.0.0) (date_key row.0.1)) pairs ≡ map (λ row. row.1) pairs
unfolding date_key pick
pairs_ordered = refl
