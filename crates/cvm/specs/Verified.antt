-- A verification list gone through, rule by rule: 003, 7.5.
-- Assumes nothing.
use Rattle.std.specs.Prelude.{List, [], ◌∷◌, ℕ, drop, get_or}
use Rattle.std.specs.Int.Bits.{bit_or}
use Rattle.slices.specs.Choice.{pick}
use Rattle.cvm_rules.specs.Bits.{not_successful}
use Rattle.cvm_rules.specs.Turns.{turn_of}
use Rattle.cvm_rules.specs.declared.Circumstances.{Circumstances}
use Rattle.cvm_rules.specs.declared.Turn.{Turn}
use Rattle.cvm.specs.Lists.{limit_x, limit_y, rules_of}

-- a rule's bits are joined to those so far; then the list ends, or the rest of it goes on from there
unfoldable pub following : Turn → ℕ → (ℕ → ℕ) → ℕ
following turn bits rest = pick turn.ends (bit_or bits turn.bits) (rest (bit_or bits turn.bits))

-- given X, Y, the bits so far, and the rules that are left with the bytes handed in for them; a byte that is not there counts
-- as 0. A list that is exhausted was not successful
unfoldable pub verified_from : Circumstances → ℕ → ℕ → ℕ → List ℕ → List ℕ → ℕ
verified_from c x y bits [] results = bit_or bits not_successful
verified_from c x y bits (first ∷ []) results = bit_or bits not_successful
verified_from c x y bits (first ∷ code ∷ rules) results =
    following (turn_of c x y first code (get_or results 0 0)) bits (λ so_far. verified_from c x y so_far rules (drop 1 results))

-- byte 3 of the TVR, as far as the list and the bytes handed in for it set it
unfoldable pub verified : Circumstances → List ℕ → List ℕ → ℕ
verified c list results = verified_from c (limit_x list) (limit_y list) 0 (rules_of list) results
