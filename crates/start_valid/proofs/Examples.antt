-- The sample START changed byte by byte: each limit of validity from both sides.
-- Everything here is computed. Assumes nothing.
use mathlib.Core.Path.{◌≡◌, refl}
use mathlib.Core.Bool.{Bool, true, false}
use mathlib.Core.List.{List, [], ◌∷◌, ◌++◌, map}
use Prim.Native.Nat.{ℕ}
use lib.ListN.{length, take, set}
use Rattle.slices.specs.Choice.{pick}
use Rattle.slices.specs.Tests.{every, between}
use Rattle.decimal_dates.specs.Decimal.{decimal_from, decimal, decimal_byte, digits_only, zeros_only}
use Rattle.decimal_dates.specs.Dates.{month_and_day, valid_start_date}
use Rattle.start_fields.specs.Layout.{full_length, is_length}
use Rattle.start_fields.specs.Reading.{reading_of}
use Rattle.start_fields.proofs.Sample.{sample, full_sample}
use Rattle.start_valid.specs.Start.{valid_kind, valid_digits, valid_random, valid_percentages}
use Rattle.start_valid.specs.Start.{valid_threshold, valid_aid, valid_start, begins_session}

-- the sample with some of its bytes changed
abbrev changed : List (ℕ × ℕ) → List ℕ
changed [] = sample
changed (c ∷ cs) = set (changed cs) c.0 c.1

-- changes, and whether the START is valid after them
abbrev rows : List (List (ℕ × ℕ) × Bool)
rows =
    ([], true)
    -- type
    ∷ ((0, 0) ∷ [], true) ∷ ((0, 2) ∷ [], true) ∷ ((0, 3) ∷ [], false)
    -- digits at 1-20, 25-30 and 33-38, and nowhere else
    ∷ ((1, 0xA0) ∷ [], false) ∷ ((6, 0x0A) ∷ [], false) ∷ ((7, 0xA0) ∷ [], false) ∷ ((13, 0x0A) ∷ [], false) ∷ ((15, 0xA0) ∷ [], false)
    ∷ ((17, 0x0A) ∷ [], false) ∷ ((19, 0x1A) ∷ [], false) ∷ ((20, 0xFF) ∷ [], false) ∷ ((21, 0xFF) ∷ [], true) ∷ ((24, 0xFF) ∷ [], true)
    ∷ ((25, 0x0A) ∷ [], false) ∷ ((30, 0xA0) ∷ [], false) ∷ ((33, 0x0A) ∷ (25, 0x99) ∷ [], false) ∷ ((38, 0x0A) ∷ [], false)
    ∷ ((40, 0xFF) ∷ [], true) ∷ ((42, 0xFF) ∷ [], true) ∷ ((56, 0xAA) ∷ [], true)
    -- month, and a day that it has
    ∷ ((18, 0) ∷ [], false) ∷ ((18, 1) ∷ [], true) ∷ ((18, 2) ∷ [], false) ∷ ((18, 0x12) ∷ [], true) ∷ ((18, 0x13) ∷ [], false)
    ∷ ((18, 4) ∷ [], false) ∷ ((18, 4) ∷ (19, 0x30) ∷ [], true)
    ∷ ((18, 2) ∷ (19, 0x29) ∷ [], false) ∷ ((17, 0x24) ∷ (18, 2) ∷ (19, 0x29) ∷ [], true)
    ∷ ((19, 0) ∷ [], false) ∷ ((19, 1) ∷ [], true) ∷ ((19, 0x31) ∷ [], true) ∷ ((19, 0x32) ∷ [], false)
    -- random number
    ∷ ((31, 0) ∷ [], false) ∷ ((31, 1) ∷ [], true) ∷ ((31, 99) ∷ [], true) ∷ ((31, 100) ∷ [], false)
    -- target and maximum
    ∷ ((32, 0) ∷ [], true) ∷ ((32, 70) ∷ [], true) ∷ ((32, 71) ∷ [], false) ∷ ((32, 100) ∷ (39, 100) ∷ [], false)
    ∷ ((39, 9) ∷ [], false) ∷ ((39, 99) ∷ [], true) ∷ ((39, 100) ∷ [], false)
    -- threshold zero, or below the floor limit
    ∷ ((37, 0x59) ∷ [], true) ∷ ((37, 0x60) ∷ [], false) ∷ ((36, 1) ∷ [], false) ∷ ((37, 0) ∷ [], true) ∷ ((37, 0) ∷ (29, 0) ∷ [], true)
    ∷ ((29, 0) ∷ [], false)
    -- AID
    ∷ ((57, 4) ∷ [], false) ∷ ((57, 5) ∷ [], true) ∷ ((57, 16) ∷ [], true) ∷ ((57, 17) ∷ [], false)
    ∷ ((64, 1) ∷ [], true) ∷ ((65, 1) ∷ [], false) ∷ ((73, 1) ∷ [], false) ∷ ((73, 1) ∷ (57, 16) ∷ [], true)
    ∷ ((73, 1) ∷ (57, 15) ∷ [], false)
    ∷ []

rows_judged : map (λ row. valid_start (changed row.0)) rows ≡ map (λ row. row.1) rows
unfolding valid_start every pick between is_length valid_kind valid_digits digits_only decimal_byte valid_start_date month_and_day
    valid_random
    valid_percentages valid_threshold valid_aid zeros_only reading_of decimal decimal_from
rows_judged = refl

-- so many bytes of the longer sample: whether the START is valid, and whether a session can be begun with it. 74 bytes are only judged
abbrev sized : ℕ → List ℕ
sized n = take n full_sample

abbrev sizes : List (ℕ × Bool × Bool)
sizes =
    (0, false, false) ∷ (73, false, false) ∷ (74, true, false) ∷ (75, false, false) ∷ (76, false, false) ∷ (full_length, true, true) ∷ []

sizes_judged : map (λ row. (length (sized row.0), valid_start (sized row.0), begins_session (sized row.0))) sizes ≡ sizes
unfolding begins_session valid_start every pick between is_length valid_kind valid_digits digits_only decimal_byte valid_start_date
    month_and_day valid_random valid_percentages valid_threshold valid_aid zeros_only reading_of decimal decimal_from
sizes_judged = refl

-- one byte more
too_long : valid_start (full_sample ++ (0 ∷ [])) ≡ false
unfolding valid_start every pick is_length
too_long = refl
