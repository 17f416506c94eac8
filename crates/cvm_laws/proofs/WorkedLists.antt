-- Whole lists: the rules in their order, what is passed over, what ends them, and bytes that are no right list. Everything here is
-- computed. Assumes nothing.
use mathlib.Core.Path.{◌≡◌, refl}
use mathlib.Core.Bool.{true}
use mathlib.Core.List.{List, [], ◌∷◌, map}
use Prim.Native.Nat.{ℕ}
use Rattle.slices.specs.Choice.{pick}
use Rattle.slices.specs.Tables.{beside}
use Rattle.cvm_rules.specs.Methods.{method_of, supported, succeeds, pin_bits, tried_bits}
use Rattle.cvm_rules.specs.Conditions.{satisfied}
use Rattle.cvm_rules.specs.Turns.{tried, tried_turn, turn_of}
use Rattle.cvm_rules.specs.declared.Circumstances.{Circumstances}
use Rattle.cvm.specs.Lists.{limit_of, limit_x, limit_y, rules_of}
use Rattle.cvm.specs.Verified.{following, verified_from, verified}

-- an amount of 1000 in the application's currency, for goods, on a terminal with offline PIN and signature
abbrev shop : Circumstances
shop = record { amount = 1000; other = 0; kind = 0; home = true; means = 0xA0 }

-- X is 1000, Y is 2000
abbrev came : List ℕ → List ℕ → ℕ
came rules results = verified shop (0 ∷ 0 ∷ 0x03 ∷ 0xE8 ∷ 0 ∷ 0 ∷ 0x07 ∷ 0xD0 ∷ rules) results

-- rules, the bytes handed in, and what is set
abbrev lists : List (List ℕ × List ℕ × ℕ)
lists =
    -- no rules: exhausted at once
    ([], [], 0x80)
    -- the offline PIN is not entered; the signature follows, and is right
    ∷ (0x41 ∷ 0x00 ∷ 0x1E ∷ 0x00 ∷ [], 3 ∷ 1 ∷ [], 0x08)
    -- the same where the PIN lets nothing follow
    ∷ (0x01 ∷ 0x00 ∷ 0x1E ∷ 0x00 ∷ [], 3 ∷ 1 ∷ [], 0x88)
    -- bits of earlier tries stay: an unknown method, an online PIN without the means for it, used-up tries, then success
    ∷ (0x44 ∷ 0x00 ∷ 0x42 ∷ 0x00 ∷ 0x41 ∷ 0x00 ∷ 0x1F ∷ 0x00 ∷ [], 1 ∷ 1 ∷ 4 ∷ 0 ∷ [], 0x70)
    -- rules that are passed over set nothing, whatever their bytes: never satisfied, at X, an unknown code
    ∷ (0x44 ∷ 0x05 ∷ 0x01 ∷ 0x06 ∷ 0x42 ∷ 0x0A ∷ 0x1E ∷ 0x08 ∷ [], 0 ∷ 0 ∷ 0 ∷ 1 ∷ [], 0)
    ∷ (0x44 ∷ 0x05 ∷ 0x01 ∷ 0x06 ∷ 0x42 ∷ 0x0A ∷ 0x1E ∷ 0x08 ∷ [], 1 ∷ 1 ∷ 1 ∷ 1 ∷ [], 0)
    ∷ (0x44 ∷ 0x05 ∷ 0x01 ∷ 0x06 ∷ 0x42 ∷ 0x0A ∷ 0x1E ∷ 0x08 ∷ [], 4 ∷ 3 ∷ 2 ∷ 1 ∷ [], 0)
    -- nothing is tried after the first success
    ∷ (0x41 ∷ 0x00 ∷ 0x44 ∷ 0x00 ∷ [], 1 ∷ 0 ∷ [], 0)
    -- 'fail' too lets the next rule follow, where it says so
    ∷ (0x40 ∷ 0x00 ∷ 0x1E ∷ 0x00 ∷ [], 1 ∷ 1 ∷ [], 0)
    ∷ (0x00 ∷ 0x00 ∷ 0x1E ∷ 0x00 ∷ [], 1 ∷ 1 ∷ [], 0x80)
    -- a byte left over is no rule; a byte that is not handed in, or is above 4, counts as 0
    ∷ (0x1F ∷ [], 1 ∷ [], 0x80)
    ∷ (0x01 ∷ 0x00 ∷ [], [], 0x80)
    ∷ (0x01 ∷ 0x00 ∷ [], 5 ∷ [], 0x80)
    ∷ []

lists_right : map (λ row. came row.0 row.1) lists ≡ map (λ row. row.2) lists
unfolding verified verified_from following limit_x limit_y limit_of rules_of pick beside
    turn_of tried tried_turn satisfied method_of supported succeeds tried_bits pin_bits
lists_right = refl

-- lists too short for their amounts
short_right : verified shop [] [] ∷ verified shop (1 ∷ 2 ∷ 3 ∷ []) [] ∷ [] ≡ 0x80 ∷ 0x80 ∷ []
unfolding verified verified_from following limit_x limit_y limit_of rules_of pick beside
    turn_of tried tried_turn satisfied method_of supported succeeds tried_bits pin_bits
short_right = refl
