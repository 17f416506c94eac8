-- Each condition before 'no verification', which succeeds wherever it is tried: 0 where the condition is satisfied, and where the rule
-- is passed over 'not successful', since the list is exhausted. X is 1000, Y is 2000. Everything here is computed. Assumes nothing.
use mathlib.Core.Path.{◌≡◌, refl}
use mathlib.Core.Bool.{Bool, true, false}
use mathlib.Core.List.{List, [], ◌∷◌, map}
use Prim.Native.Nat.{ℕ}
use Rattle.slices.specs.Choice.{pick}
use Rattle.slices.specs.Tables.{beside}
use Rattle.cvm_rules.specs.Methods.{method_of, supported, succeeds, pin_bits, tried_bits}
use Rattle.cvm_rules.specs.Conditions.{satisfied}
use Rattle.cvm_rules.specs.Turns.{tried, tried_turn, turn_of}
use Rattle.cvm_rules.specs.declared.Circumstances.{Circumstances}
use Rattle.cvm.specs.Lists.{limit_of, limit_x, limit_y, rules_of}
use Rattle.cvm.specs.Verified.{following, verified_from, verified}

abbrev told : ℕ → ℕ → ℕ → Bool → ℕ → Circumstances
told amount other kind home means = record { amount = amount; other = other; kind = kind; home = home; means = means }

-- what one rule sets, with the byte 3
abbrev one : Circumstances → ℕ → ℕ → ℕ
one c first code = verified c (0 ∷ 0 ∷ 0x03 ∷ 0xE8 ∷ 0 ∷ 0 ∷ 0x07 ∷ 0xD0 ∷ first ∷ code ∷ []) (3 ∷ [])

-- 'no verification' under each of these conditions
abbrev under : List ℕ → Circumstances → List ℕ
under codes c = map (one c 0x1F) codes

-- 9C, 9F03, and what comes of 00, 01, 02, 05, 0A, 7F, 80, FF
abbrev plain_rows : List (ℕ × ℕ × List ℕ)
plain_rows =
    -- goods, and a refund
    (0x00, 0, 0 ∷ 0x80 ∷ 0 ∷ 0x80 ∷ 0x80 ∷ 0x80 ∷ 0x80 ∷ 0x80 ∷ [])
    ∷ (0x20, 0, 0 ∷ 0x80 ∷ 0 ∷ 0x80 ∷ 0x80 ∷ 0x80 ∷ 0x80 ∷ 0x80 ∷ [])
    -- cash, cashback, both
    ∷ (0x01, 0, 0 ∷ 0 ∷ 0x80 ∷ 0x80 ∷ 0x80 ∷ 0x80 ∷ 0x80 ∷ 0x80 ∷ [])
    ∷ (0x00, 1, 0 ∷ 0 ∷ 0x80 ∷ 0x80 ∷ 0x80 ∷ 0x80 ∷ 0x80 ∷ 0x80 ∷ [])
    ∷ (0x01, 1, 0 ∷ 0 ∷ 0x80 ∷ 0x80 ∷ 0x80 ∷ 0x80 ∷ 0x80 ∷ 0x80 ∷ [])
    ∷ []

plain_right : map (λ row. under (0x00 ∷ 0x01 ∷ 0x02 ∷ 0x05 ∷ 0x0A ∷ 0x7F ∷ 0x80 ∷ 0xFF ∷ []) (told 0 row.1 row.0 false 0)) plain_rows
    ≡ map (λ row. row.2) plain_rows
unfolding verified verified_from following limit_x limit_y limit_of rules_of pick beside
    turn_of tried tried_turn satisfied method_of supported succeeds tried_bits pin_bits
plain_right = refl

-- in the application's currency or not, the amount, and what comes of 06, 07, 08, 09
abbrev amount_rows : List (Bool × ℕ × List ℕ)
amount_rows =
    (true, 0, 0 ∷ 0x80 ∷ 0 ∷ 0x80 ∷ [])
    -- under X; X, which is neither; over X
    ∷ (true, 999, 0 ∷ 0x80 ∷ 0 ∷ 0x80 ∷ [])
    ∷ (true, 1000, 0x80 ∷ 0x80 ∷ 0 ∷ 0x80 ∷ [])
    ∷ (true, 1001, 0x80 ∷ 0 ∷ 0 ∷ 0x80 ∷ [])
    -- the same at Y
    ∷ (true, 1999, 0x80 ∷ 0 ∷ 0 ∷ 0x80 ∷ [])
    ∷ (true, 2000, 0x80 ∷ 0 ∷ 0x80 ∷ 0x80 ∷ [])
    ∷ (true, 2001, 0x80 ∷ 0 ∷ 0x80 ∷ 0 ∷ [])
    ∷ (true, 999999999999, 0x80 ∷ 0 ∷ 0x80 ∷ 0 ∷ [])
    -- in another currency, or without a 9F42, all four are passed over
    ∷ (false, 0, 0x80 ∷ 0x80 ∷ 0x80 ∷ 0x80 ∷ [])
    ∷ (false, 999, 0x80 ∷ 0x80 ∷ 0x80 ∷ 0x80 ∷ [])
    ∷ (false, 1001, 0x80 ∷ 0x80 ∷ 0x80 ∷ 0x80 ∷ [])
    ∷ (false, 2001, 0x80 ∷ 0x80 ∷ 0x80 ∷ 0x80 ∷ [])
    ∷ []

amounts_right : map (λ row. under (0x06 ∷ 0x07 ∷ 0x08 ∷ 0x09 ∷ []) (told row.1 0 0 row.0 0)) amount_rows
    ≡ map (λ row. row.2) amount_rows
unfolding verified verified_from following limit_x limit_y limit_of rules_of pick beside
    turn_of tried tried_turn satisfied method_of supported succeeds tried_bits pin_bits
amounts_right = refl

-- byte 2 of 9F33, the condition, and what comes of the methods 00, 01, 02, 03, 1E, 1F, 04. A PIN that is tried sets 'not entered',
-- or 'no pad' without the means for it; an unknown method that is tried is told by its bit
abbrev means_rows : List (ℕ × ℕ × List ℕ)
means_rows =
    -- the terminal supports the method
    (0xE0, 0x03, 0x80 ∷ 0x88 ∷ 0x88 ∷ 0x88 ∷ 0x80 ∷ 0x00 ∷ 0x80 ∷ [])
    ∷ (0x00, 0x03, 0x80 ∷ 0x80 ∷ 0x80 ∷ 0x80 ∷ 0x80 ∷ 0x00 ∷ 0x80 ∷ [])
    ∷ (0x80, 0x03, 0x80 ∷ 0x88 ∷ 0x80 ∷ 0x80 ∷ 0x80 ∷ 0x00 ∷ 0x80 ∷ [])
    ∷ (0x40, 0x03, 0x80 ∷ 0x80 ∷ 0x88 ∷ 0x80 ∷ 0x80 ∷ 0x00 ∷ 0x80 ∷ [])
    ∷ (0x20, 0x03, 0x80 ∷ 0x80 ∷ 0x80 ∷ 0x80 ∷ 0x80 ∷ 0x00 ∷ 0x80 ∷ [])
    ∷ (0xA0, 0x03, 0x80 ∷ 0x88 ∷ 0x80 ∷ 0x88 ∷ 0x80 ∷ 0x00 ∷ 0x80 ∷ [])
    ∷ (0x1F, 0x03, 0x80 ∷ 0x80 ∷ 0x80 ∷ 0x80 ∷ 0x80 ∷ 0x00 ∷ 0x80 ∷ [])
    -- it does not
    ∷ (0xE0, 0x04, 0x80 ∷ 0x80 ∷ 0x80 ∷ 0x80 ∷ 0x80 ∷ 0x80 ∷ 0xC0 ∷ [])
    ∷ (0x00, 0x04, 0x80 ∷ 0x90 ∷ 0x90 ∷ 0x90 ∷ 0x80 ∷ 0x80 ∷ 0xC0 ∷ [])
    ∷ (0x80, 0x04, 0x80 ∷ 0x80 ∷ 0x90 ∷ 0x88 ∷ 0x80 ∷ 0x80 ∷ 0xC0 ∷ [])
    ∷ (0x40, 0x04, 0x80 ∷ 0x90 ∷ 0x80 ∷ 0x90 ∷ 0x80 ∷ 0x80 ∷ 0xC0 ∷ [])
    ∷ (0x20, 0x04, 0x80 ∷ 0x90 ∷ 0x90 ∷ 0x90 ∷ 0x80 ∷ 0x80 ∷ 0xC0 ∷ [])
    ∷ (0xA0, 0x04, 0x80 ∷ 0x80 ∷ 0x90 ∷ 0x80 ∷ 0x80 ∷ 0x80 ∷ 0xC0 ∷ [])
    ∷ (0x1F, 0x04, 0x80 ∷ 0x90 ∷ 0x90 ∷ 0x90 ∷ 0x80 ∷ 0x80 ∷ 0xC0 ∷ [])
    ∷ []

abbrev firsts : List ℕ
firsts = 0x00 ∷ 0x01 ∷ 0x02 ∷ 0x03 ∷ 0x1E ∷ 0x1F ∷ 0x04 ∷ []

means_right : map (λ row. map (λ first. one (told 0 0 0 false row.0) first row.1) firsts) means_rows
    ≡ map (λ row. row.2) means_rows
unfolding verified verified_from following limit_x limit_y limit_of rules_of pick beside
    turn_of tried tried_turn satisfied method_of supported succeeds tried_bits pin_bits
means_right = refl
