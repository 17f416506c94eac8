-- One try: no method succeeds without its means, 'online PIN entered' is set by a successful online PIN alone, and of the bytes that
-- tell of a PIN none counts at a signature.
-- Assumes nothing.
use mathlib.Core.Path.{◌≡◌, refl}
use mathlib.Core.Bool.{Bool, true, false, ◌&&◌, false≢true}
use Prim.Native.Nat.{ℕ, ◌/◌, ◌%◌}
use native.Mathlib.Omega.{arith}
use lib.Dec.{eqb}
use borrow.Author.Tests.{ne_eqb}
use Rattle.slices.specs.Tables.{beside}
use Rattle.slices.proofs.Choice.{picked, and_left}
use Rattle.cvm_rules.specs.Bits.{no_pin_pad, pin_not_entered, tries_exceeded, online_pin_entered}
use Rattle.cvm_rules.specs.Methods.{supported, succeeds, has_offline_pin, has_online_pin, pin_results, pin_bits, tried_bits}
use Rattle.cvm_rules.specs.declared.Method.{Method}
use Rattle.cvm_rules.specs.declared.Method.TheVariants.{Fail, OfflinePin, OnlinePin, OfflinePinAndSignature}
use Rattle.cvm_rules.specs.declared.Method.TheVariants.{Signature, NoVerification, Unrecognised}

pub means_needed : (m : Method) (means result : ℕ) → succeeds m means result ≡ true → supported m means ≡ true
unfolding succeeds supported
means_needed Fail means result e = absurd (false≢true e)
means_needed OfflinePin means result e = and_left _ _ e
means_needed OnlinePin means result e = and_left _ _ e
means_needed OfflinePinAndSignature means result e = and_left _ _ e
means_needed Signature means result e = and_left _ _ e
means_needed NoVerification means result e = refl
means_needed Unrecognised means result e = absurd (false≢true e)

-- b3 is clear
abbrev Clear : ℕ → Type 0
Clear b = b / 4 % 2 ≡ 0

pin_clear : (pad : Bool) (result : ℕ) → Clear (pin_bits pad result)
unfolding pin_bits beside
pin_clear pad result =
    picked Clear pad (beside 0 result pin_results) no_pin_pad
    (λ _. picked Clear (eqb result 2) no_pin_pad _ (λ _. refl)
    (λ _. picked Clear (eqb result 3) pin_not_entered _ (λ _. refl)
    (λ _. picked Clear (eqb result 4) tries_exceeded 0 (λ _. refl) (λ _. refl))))
    (λ _. refl)

-- b3 of what a try sets: the online PIN's success, and nothing else
pub pin_entered : (m : Method) (means result : ℕ) → (tried_bits m means result / 4 % 2 ≡ 1)
    → (m ≡ OnlinePin) × (succeeds m means result ≡ true)
unfolding tried_bits
pin_entered Fail means result e = absurd (omega arith)
pin_entered OfflinePin means result e = absurd (omega (arith, pin_clear (has_offline_pin means) result))
pin_entered OnlinePin means result e =
    picked (λ b. b / 4 % 2 ≡ 1 → (OnlinePin ≡ OnlinePin) × (succeeds OnlinePin means result ≡ true)) (succeeds OnlinePin means result)
    online_pin_entered (pin_bits (has_online_pin means) result)
    (λ s _. (refl, s))
    (λ _ f. absurd (omega (arith, pin_clear (has_online_pin means) result)))
    e
pin_entered OfflinePinAndSignature means result e = absurd (omega (arith, pin_clear (has_offline_pin means) result))
pin_entered Signature means result e = absurd (omega arith)
pin_entered NoVerification means result e = absurd (omega arith)
pin_entered Unrecognised means result e = absurd (omega arith)

-- a byte other than 1 is a failure that sets nothing, as 0 is
pub signature_byte : (means result : ℕ) → (result ≡ 1 → ⊥)
    → (succeeds Signature means result ≡ false) × (tried_bits Signature means result ≡ 0)
unfolding succeeds tried_bits
signature_byte means result h = (second (supported Signature means) (ne_eqb result 1 h), refl)
  where
    second : (s : Bool) {t : Bool} → t ≡ false → (s && t) ≡ false
    second true e = e
    second false e = refl
