-- What can be set: by a try never 'not successful', and by a list no bit below b3 and none outside the byte. Each line of the
-- definitions is one of the six bits or none.
-- Assumes nothing.
use mathlib.Core.Path.{◌≡◌, refl, ap₂, ◌∙◌}
use mathlib.Core.Bool.{Bool, true, false}
use mathlib.Core.List.{List, [], ◌∷◌}
use Prim.Native.Nat.{ℕ, ◌<◌, ◌%◌, ◌^◌}
use native.Mathlib.Omega.{arith}
use lib.Dec.{eqb}
use lib.ListN.{drop, get_or}
use lib.Bits.{bit_or, or_lt, or_mod}
use Rattle.slices.specs.Tables.{beside}
use Rattle.slices.proofs.Choice.{picked}
use Rattle.cvm_rules.specs.Bits.{not_successful, no_pin_pad, pin_not_entered, tries_exceeded}
use Rattle.cvm_rules.specs.Methods.{method_of, goes_on, succeeds, pin_results, pin_bits, tried_bits, has_offline_pin, has_online_pin}
use Rattle.cvm_rules.specs.Turns.{turn, passed_over, tried, tried_turn, turn_of}
use Rattle.cvm_rules.specs.declared.Method.{Method}
use Rattle.cvm_rules.specs.declared.Method.TheVariants.{Fail, OfflinePin, OnlinePin, OfflinePinAndSignature}
use Rattle.cvm_rules.specs.declared.Method.TheVariants.{Signature, NoVerification, Unrecognised}
use Rattle.cvm_rules.specs.declared.Circumstances.{Circumstances}
use Rattle.cvm_rules.specs.declared.Turn.{Turn}
use Rattle.cvm.specs.Lists.{limit_x, limit_y, rules_of}
use Rattle.cvm.specs.Verified.{following, verified_from, verified}

-- of a byte's bits none below b3
abbrev pub Within : ℕ → ℕ → Type 0
Within limit b = (b < limit) × (b % 4 ≡ 0)

pub joined_within : (k a b : ℕ) → Within (2 ^ k) a → Within (2 ^ k) b → Within (2 ^ k) (bit_or a b)
joined_within k a b h g = (or_lt k a b h.0 g.0, or_mod a b 2 ∙ ap₂ bit_or h.1 g.1)

pin_within : (pad : Bool) (result : ℕ) → Within 128 (pin_bits pad result)
unfolding pin_bits beside
pin_within pad result =
    picked (Within 128) pad (beside 0 result pin_results) no_pin_pad
    (λ _. picked (Within 128) (eqb result 2) no_pin_pad _ (λ _. (omega arith, refl))
    (λ _. picked (Within 128) (eqb result 3) pin_not_entered _ (λ _. (omega arith, refl))
    (λ _. picked (Within 128) (eqb result 4) tries_exceeded 0 (λ _. (omega arith, refl)) (λ _. (omega arith, refl)))))
    (λ _. (omega arith, refl))

pub tried_within : (m : Method) (means result : ℕ) → Within 128 (tried_bits m means result)
unfolding tried_bits
tried_within Fail means result = (omega arith, refl)
tried_within OfflinePin means result = pin_within (has_offline_pin means) result
tried_within OnlinePin means result =
    picked (Within 128) (succeeds OnlinePin means result) _ _ (λ _. (omega arith, refl)) (λ _. pin_within (has_online_pin means) result)
tried_within OfflinePinAndSignature means result = pin_within (has_offline_pin means) result
tried_within Signature means result = (omega arith, refl)
tried_within NoVerification means result = (omega arith, refl)
tried_within Unrecognised means result = (omega arith, refl)

wider : (b : ℕ) → Within 128 b → Within 256 b
wider b h = (omega arith, h.1)

pub turn_within : (c : Circumstances) (x y first code result : ℕ) → Within 256 (turn_of c x y first code result).bits
unfolding turn_of tried_turn
turn_within c x y first code result =
    let m = method_of first in
    let b = tried_bits m c.means result in
    let h = wider b (tried_within m c.means result) in
    let P : Turn → Type 0 = λ t. Within 256 t.bits in
    picked P (tried c x y first code) (tried_turn m (goes_on first) c.means result) passed_over
    (λ _. picked P (succeeds m c.means result) (turn b true) _
    (λ _. h)
    (λ _. picked P (goes_on first) (turn b false) (turn (bit_or b not_successful) true)
    (λ _. h)
    (λ _. joined_within 8 b not_successful h (omega arith, refl))))
    (λ _. (omega arith, refl))

module _ (c : Circumstances) (x y : ℕ) where
  pub from_within : (bits : ℕ) (rules results : List ℕ) → Within 256 bits → Within 256 (verified_from c x y bits rules results)
  unfolding verified_from following
  from_within bits [] results h = joined_within 8 bits not_successful h (omega arith, refl)
  from_within bits (b ∷ []) results h = joined_within 8 bits not_successful h (omega arith, refl)
  from_within bits (first ∷ code ∷ rules) results h =
      let t = turn_of c x y first code (get_or results 0 0) in
      let so_far = joined_within 8 bits t.bits h (turn_within c x y first code (get_or results 0 0)) in
      picked (Within 256) t.ends _ _ (λ _. so_far) (λ _. from_within (bit_or bits t.bits) rules (drop 1 results) so_far)

-- only b8 to b3 are ever set
pub six_bits : (c : Circumstances) (list results : List ℕ) → (verified c list results < 256) × (verified c list results % 4 ≡ 0)
unfolding verified
six_bits c list results = from_within c (limit_x list) (limit_y list) 0 (rules_of list) results (omega arith, refl)
