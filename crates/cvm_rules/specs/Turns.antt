-- What a rule comes to: passed over, or tried, with success or without. 003, 7.5.
-- Assumes nothing.
use Rattle.std.specs.Prelude.{Bool, true, false, ℕ}
use Rattle.std.specs.Int.Bits.{bit_or}
use Rattle.slices.specs.Choice.{pick}
use Rattle.cvm_rules.specs.Bits.{not_successful}
use Rattle.cvm_rules.specs.Methods.{method_of, goes_on, succeeds, tried_bits}
use Rattle.cvm_rules.specs.Conditions.{satisfied}
use Rattle.cvm_rules.specs.declared.Method.{Method}
use Rattle.cvm_rules.specs.declared.Circumstances.{Circumstances}
use Rattle.cvm_rules.specs.declared.Turn.{Turn}

-- bits for TVR byte 3, and whether the list ends with this rule
abbrev pub turn : ℕ → Bool → Turn
turn bits ends = record { bits = bits; ends = ends }

-- the condition is not satisfied, or not known: no bit, and the next rule
abbrev pub passed_over : Turn
passed_over = turn 0 false

-- success ends the list; so does a failure after which the next rule is not applied, with 'not successful'
unfoldable pub tried_turn : Method → Bool → ℕ → ℕ → Turn
tried_turn m on means result =
    pick (succeeds m means result)
    (turn (tried_bits m means result) true)
    (pick on
    (turn (tried_bits m means result) false)
    (turn (bit_or (tried_bits m means result) not_successful) true))

-- whether a rule is tried, given X, Y and its two bytes
unfoldable pub tried : Circumstances → ℕ → ℕ → ℕ → ℕ → Bool
tried c x y first code = satisfied c x y (method_of first) code

-- given X, Y, the rule's two bytes, and the byte that was handed in for it
unfoldable pub turn_of : Circumstances → ℕ → ℕ → ℕ → ℕ → ℕ → Turn
turn_of c x y first code result =
    pick (tried c x y first code) (tried_turn (method_of first) (goes_on first) c.means result) passed_over
