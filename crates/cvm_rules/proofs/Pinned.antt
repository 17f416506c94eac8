-- The rules of one method or one condition on named values; `cvm_laws` works out the tables whole. Everything here is computed.
-- Assumes nothing.
use mathlib.Core.Path.{◌≡◌, refl}
use mathlib.Core.Bool.{true, false}
use mathlib.Core.List.{List, [], ◌∷◌, map}
use Prim.Native.Nat.{ℕ}
use Rattle.slices.specs.Choice.{pick}
use Rattle.slices.specs.Tables.{beside}
use Rattle.cvm_rules.specs.Methods.{method_of, supported, succeeds, pin_bits, tried_bits}
use Rattle.cvm_rules.specs.Conditions.{satisfied}
use Rattle.cvm_rules.specs.Turns.{turn, tried, tried_turn, turn_of}
use Rattle.cvm_rules.specs.declared.Circumstances.{Circumstances}
use Rattle.cvm_rules.specs.declared.Turn.{Turn}

-- goods for an amount in the application's currency
abbrev for : ℕ → ℕ → Circumstances
for amount means = record { amount = amount; other = 0; kind = 0; home = true; means = means }

-- amount, byte 2 of 9F33, the rule, the byte handed in, and what it comes to; X is 1000, Y is 2000
abbrev rules : List (Circumstances × ℕ × ℕ × ℕ × Turn)
rules =
    -- under X, X, over X, Y
    (for 999 0, 0x1F, 0x06, 0, turn 0 true)
    ∷ (for 1000 0, 0x1F, 0x06, 0, turn 0 false)
    ∷ (for 1000 0, 0x1F, 0x07, 0, turn 0 false)
    ∷ (for 1001 0, 0x1F, 0x07, 0, turn 0 true)
    ∷ (for 2000 0, 0x1F, 0x08, 0, turn 0 false)
    -- a PIN with its means, with another byte, without them
    ∷ (for 0 0x80, 0x01, 0x00, 1, turn 0 true)
    ∷ (for 0 0x40, 0x02, 0x00, 1, turn 0x04 true)
    ∷ (for 0 0x40, 0x42, 0x00, 4, turn 0x20 false)
    ∷ (for 0 0x40, 0x41, 0x00, 1, turn 0x10 false)
    -- the PIN with the signature, without the signature
    ∷ (for 0 0xA0, 0x03, 0x00, 1, turn 0 true)
    ∷ (for 0 0x80, 0x03, 0x00, 1, turn 0x80 true)
    -- not recognised; 'fail'; a signature with a PIN's byte
    ∷ (for 0 0xE0, 0x04, 0x00, 1, turn 0xC0 true)
    ∷ (for 0 0xE0, 0x40, 0x00, 1, turn 0 false)
    ∷ (for 0 0xE0, 0x1E, 0x00, 4, turn 0x80 true)
    ∷ []

rules_right : map (λ r. turn_of r.0 1000 2000 r.1 r.2 r.3) rules ≡ map (λ r. r.4) rules
unfolding turn_of tried tried_turn satisfied method_of supported succeeds tried_bits pin_bits beside pick
rules_right = refl
