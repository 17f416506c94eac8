-- What a verification list comes to on the way: the bits after so many rules, which rules are tried, and whether one succeeds.
-- Assumes nothing.
use Rattle.std.specs.Prelude.{◌≡◌, Bool, true, false, List, [], ◌∷◌, ℕ, zero, suc, drop, get_or}
use Rattle.std.specs.Int.Bits.{bit_or}
use Rattle.slices.specs.Choice.{pick}
use Rattle.cvm_rules.specs.Bits.{not_successful}
use Rattle.cvm_rules.specs.Methods.{method_of, goes_on, succeeds}
use Rattle.cvm_rules.specs.Turns.{tried, turn_of}
use Rattle.cvm_rules.specs.declared.Circumstances.{Circumstances}
use Rattle.cvm.specs.Lists.{limit_x, limit_y, rules_of}
use Rattle.cvm.specs.Verified.{following}

-- every bit of a is in b
abbrev pub Keeps : ℕ → ℕ → Type 0
Keeps a b = bit_or a b ≡ b

-- given X, Y: the bits after the first n rules, begun with some; past the last rule with 'not successful'
unfoldable pub bits_after : Circumstances → ℕ → ℕ → ℕ → ℕ → List ℕ → List ℕ → ℕ
bits_after c x y zero bits rules results = bits
bits_after c x y (suc n) bits [] results = bit_or bits not_successful
bits_after c x y (suc n) bits (first ∷ []) results = bit_or bits not_successful
bits_after c x y (suc n) bits (first ∷ code ∷ rules) results =
    following (turn_of c x y first code (get_or results 0 0)) bits (λ so_far. bits_after c x y n so_far rules (drop 1 results))

-- for each rule, up to the one that ends the list, whether it is tried
unfoldable pub tries_from : Circumstances → ℕ → ℕ → List ℕ → List ℕ → List Bool
tries_from c x y [] results = []
tries_from c x y (first ∷ []) results = []
tries_from c x y (first ∷ code ∷ rules) results =
    tried c x y first code ∷ pick (turn_of c x y first code (get_or results 0 0)).ends [] (tries_from c x y rules (drop 1 results))

unfoldable pub tries : Circumstances → List ℕ → List ℕ → List Bool
tries c list results = tries_from c (limit_x list) (limit_y list) (rules_of list) results

-- two payloads have the same byte wherever a rule is tried
abbrev pub Agree : List Bool → List ℕ → List ℕ → Type 0
Agree asked r s = (k : ℕ) → get_or asked k false ≡ true → get_or r k 0 ≡ get_or s k 0

-- a rule that is tried succeeds before one fails that lets no other follow
unfoldable pub successful_from : Circumstances → ℕ → ℕ → List ℕ → List ℕ → Bool
successful_from c x y [] results = false
successful_from c x y (first ∷ []) results = false
successful_from c x y (first ∷ code ∷ rules) results =
    pick (tried c x y first code)
    (pick (succeeds (method_of first) c.means (get_or results 0 0))
    true
    (pick (goes_on first) (successful_from c x y rules (drop 1 results)) false))
    (successful_from c x y rules (drop 1 results))

unfoldable pub successful : Circumstances → List ℕ → List ℕ → Bool
successful c list results = successful_from c (limit_x list) (limit_y list) (rules_of list) results
