-- Selection at random, the TVR and the TSI on named cases: 01's cases J and K, and each limit from both sides. Everything
-- here is computed. Assumes nothing.
use mathlib.Core.Path.{◌≡◌, refl}
use mathlib.Core.Bool.{Bool, true, false}
use mathlib.Core.List.{List, [], ◌∷◌, map}
use mathlib.Core.Option.{Option, some, none}
use Prim.Native.Nat.{ℕ, ◌+◌, ◌-◌, ◌*◌, ◌/◌}
use lib.Dec.{leb}
use Rattle.slices.specs.Choice.{pick}
use Rattle.slices.specs.Tests.{every, alike}
use Rattle.decimal_dates.specs.Decimal.{decimal, decimal_from}
use Rattle.decimal_dates.specs.Dates.{date_key}
use Rattle.start_fields.specs.Reading.{Terminal}
use Rattle.start_fields.specs.Bare.{bare, weighing, telling}
use Rattle.decide_tvr.specs.Bits.{joined, flag}
use Rattle.slices.specs.Tables.{beside}
use Rattle.facts.specs.Facts.{Facts}
use Rattle.decide_tvr.specs.Selection.{biased, chosen, selected}
use Rattle.decide_tvr.specs.Results.{different_versions, expired, not_yet_effective, risk_managed, at_floor_limit, drawn}
use Rattle.decide_tvr.specs.Results.{restrictions, risks, tvr_after_records, tsi_after_records, tsi_after_first_answer}

-- ---- selection at random: target 10, maximum 70, floor limit 10000, threshold 5000

-- random number and amount, and whether it is selected
abbrev draws : List (ℕ × ℕ × Bool)
draws =
    -- cases J and K
    (40, 7500, true) ∷ (41, 7500, false) ∷ (40, 7499, false)
    -- below the threshold the target alone counts
    ∷ (10, 4999, true) ∷ (11, 4999, false)
    -- at the threshold the percentage is the target's, and a random number below it is an ordinary case
    ∷ (9, 5000, true) ∷ (10, 5000, true) ∷ (11, 5000, false)
    -- just below the floor limit it comes near the maximum, which is reached at the limit
    ∷ (69, 9999, true) ∷ (70, 9999, false) ∷ (70, 10000, true) ∷ (71, 10000, false)
    ∷ []

draws_right : map (λ d. chosen d.0 10 70 d.1 10000 5000) draws ≡ map (λ d. d.2) draws
unfolding chosen biased pick
draws_right = refl

-- a percentage rounded to a whole number first would select case K: 10 + 60 * 2499 / 5000 is 39.988
rounded_first : leb 40 (10 + ((70 - 10) * (7499 - 5000) + 2500) / 5000) ≡ true
rounded_first = refl

-- ---- the TVR and the TSI

-- a terminal of a type with an amount of two digits; date 250630, version 0102, floor limit 60, and for the selection
-- random number 10, target 10, maximum 10, threshold 0
abbrev at : ℕ → ℕ → Terminal
at kind amount =
    telling
    (weighing (bare kind [] [] []) 10 10 10 (0 ∷ 0 ∷ 0 ∷ 0 ∷ 0 ∷ amount ∷ []) (0 ∷ 0 ∷ 0 ∷ 0 ∷ 0 ∷ 0 ∷ [])
    (0 ∷ 0 ∷ 0 ∷ 0 ∷ 0 ∷ 0x60 ∷ []))
    (0x25 ∷ 0x06 ∷ 0x30 ∷ [])
    (1 ∷ 2 ∷ [])
    []

-- a card with or without risk management, a version, an expiry day in June 2025, and a first day in June 2025
abbrev card : ℕ → Option (List ℕ) → ℕ → Option (List ℕ) → List ℕ × Facts
card aip version expiry effective =
    (aip ∷ 0 ∷ [], λ tag. beside none tag ((0x9F08, version) ∷ (0x5F24, some (0x25 ∷ 0x06 ∷ expiry ∷ [])) ∷ (0x5F25, effective) ∷ []))

abbrev june : ℕ → Option (List ℕ)
june day = some (0x25 ∷ 0x06 ∷ day ∷ [])

-- terminal, card, and the TVR that follows from zeros
abbrev facts : List (Terminal × (List ℕ × Facts) × List ℕ)
facts =
    -- data authentication was not performed; the day itself is neither before nor after the date, and nothing else is set
    (at 0 0x10, card 0 none 0x30 none, 0x80 ∷ 0 ∷ 0 ∷ 0 ∷ 0 ∷ [])
    ∷ (at 0 0x10, card 0 (some (1 ∷ 2 ∷ [])) 0x30 (june 0x30), 0x80 ∷ 0 ∷ 0 ∷ 0 ∷ 0 ∷ [])
    -- another version; expired the day before; effective the day after
    ∷ (at 0 0x10, card 0 (some (1 ∷ 3 ∷ [])) 0x30 none, 0x80 ∷ 0x80 ∷ 0 ∷ 0 ∷ 0 ∷ [])
    ∷ (at 0 0x10, card 0 none 0x29 none, 0x80 ∷ 0x40 ∷ 0 ∷ 0 ∷ 0 ∷ [])
    ∷ (at 0 0x10, card 0 none 0x30 (june 0x31), 0x80 ∷ 0x20 ∷ 0 ∷ 0 ∷ 0 ∷ [])
    ∷ (at 0 0x10, card 0 (some (0 ∷ 2 ∷ [])) 0x01 (june 0x31), 0x80 ∷ 0xE0 ∷ 0 ∷ 0 ∷ 0 ∷ [])
    -- the floor limit is reached at the limit itself, for every type, where the card asks for risk management
    ∷ (at 0 0x60, card 0x08 none 0x30 none, 0x80 ∷ 0 ∷ 0 ∷ 0x80 ∷ 0 ∷ [])
    ∷ (at 1 0x60, card 0x08 none 0x30 none, 0x80 ∷ 0 ∷ 0 ∷ 0x80 ∷ 0 ∷ [])
    ∷ (at 2 0x60, card 0xFF none 0x30 none, 0x80 ∷ 0 ∷ 0 ∷ 0x80 ∷ 0 ∷ [])
    ∷ (at 2 0x60, card 0xF7 none 0x30 none, 0x80 ∷ 0 ∷ 0 ∷ 0 ∷ 0 ∷ [])
    -- below it type 2 alone draws lots
    ∷ (at 2 0x59, card 0x08 none 0x30 none, 0x80 ∷ 0 ∷ 0 ∷ 0x10 ∷ 0 ∷ [])
    ∷ (at 0 0x59, card 0x08 none 0x30 none, 0x80 ∷ 0 ∷ 0 ∷ 0 ∷ 0 ∷ [])
    ∷ (at 1 0x59, card 0x08 none 0x30 none, 0x80 ∷ 0 ∷ 0 ∷ 0 ∷ 0 ∷ [])
    ∷ []

facts_right : map (λ row. tvr_after_records row.0 row.1.0 row.1.1 (0 ∷ 0 ∷ 0 ∷ 0 ∷ 0 ∷ [])) facts ≡ map (λ row. row.2) facts
unfolding tvr_after_records joined restrictions risks flag different_versions alike expired not_yet_effective date_key risk_managed
    at_floor_limit drawn every selected chosen biased decimal decimal_from beside pick
facts_right = refl

-- bits that stand are left standing
tvr_left_standing : tvr_after_records (at 0 0x10) (0 ∷ 0 ∷ []) (card 0 none 0x29 none).1 (0x41 ∷ 0xFF ∷ 0x24 ∷ 0x08 ∷ 0x01 ∷ [])
    ≡ 0xC1 ∷ 0xFF ∷ 0x24 ∷ 0x08 ∷ 0x01 ∷ []
unfolding tvr_after_records joined restrictions risks flag different_versions expired not_yet_effective date_key risk_managed beside pick
tvr_left_standing = refl

tsi_right : map (λ aip. tsi_after_records (aip ∷ 0 ∷ []) (0 ∷ 0 ∷ [])) (0x08 ∷ 0xF7 ∷ []) ≡ (0x08 ∷ 0 ∷ []) ∷ (0 ∷ 0 ∷ []) ∷ []
unfolding tsi_after_records joined flag risk_managed pick
tsi_right = refl

tsi_answered : map tsi_after_first_answer ((0 ∷ 0 ∷ []) ∷ (0x08 ∷ 0 ∷ []) ∷ []) ≡ (0x20 ∷ 0 ∷ []) ∷ (0x28 ∷ 0 ∷ []) ∷ []
unfolding tsi_after_first_answer joined
tsi_answered = refl
