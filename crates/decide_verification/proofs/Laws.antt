-- What holds whatever results are handed in: no bit is cleared, of the TVR only byte 3 is touched and of that only b8 to b3, the TSI gets
-- its one bit, neither changes its length, and their bytes stay bytes. Each follows from their being joined to what stood there.
-- Assumes nothing.
use mathlib.Core.Path.{◌≡◌, refl, ap, ◌∙◌}
use mathlib.Core.List.{List, [], ◌∷◌}
use mathlib.Core.Option
use Prim.Native.Nat.{ℕ, zero, suc, ◌/◌, ◌%◌, ◌≤◌, ◌<◌}
use native.Mathlib.Omega.{arith}
use lib.Bits.{bit_or, or_zero_r, or_shr, or_mod}
use lib.ListN.{length, get_or, length-take}
use Rattle.start_fields.specs.Reading.{Terminal}
use Rattle.answer_common.specs.Answer.{value_most}
use Rattle.facts.specs.Facts.{Facts}
use Rattle.cvm_rules.specs.Bits.{verification_performed}
use Rattle.cvm.specs.Lists.{rules_in}
use Rattle.cvm.specs.Verified.{verified}
use Rattle.cvm.proofs.Bounds.{six_bits}
use Rattle.decide_tvr.specs.Bits.{joined}
use Rattle.decide_tvr.proofs.Rows.{kept, joined_length, joined_at, bit_joined, stays_at}
use Rattle.decide_tvr.proofs.Laws.{Bytes, joined_bytes}
use Rattle.decide_verification.specs.Verification.{verification_list, results_wanted, circumstances_of}
use Rattle.decide_verification.specs.Verification.{tvr_after_results, tsi_after_results}

module _ (t : Terminal) (told : Facts) (results tvr : List ℕ) where
  pub results_kept : joined tvr (tvr_after_results t told results tvr) ≡ tvr_after_results t told results tvr
  unfolding tvr_after_results
  results_kept = kept tvr _

  pub results_length : length tvr ≡ 5 → length (tvr_after_results t told results tvr) ≡ 5
  unfolding tvr_after_results
  results_length e = joined_length tvr _ e ∙ e

  abbrev set : List ℕ
  set = 0 ∷ 0 ∷ verified (circumstances_of t told) (verification_list told) results ∷ 0 ∷ 0 ∷ []

  set_bytes : Bytes set
  set_bytes zero = omega arith
  set_bytes (suc zero) = omega arith
  set_bytes (suc (suc zero)) = (six_bits (circumstances_of t told) (verification_list told) results).0
  set_bytes (suc (suc (suc zero))) = omega arith
  set_bytes (suc (suc (suc (suc zero)))) = omega arith
  set_bytes (suc (suc (suc (suc (suc i))))) = omega arith

  pub results_bytes : Bytes tvr → Bytes (tvr_after_results t told results tvr)
  unfolding tvr_after_results
  results_bytes h = joined_bytes tvr _ h set_bytes

  -- byte 3 gets what the list comes to, b8 to b3; every other byte stays
  pub byte_3 : get_or (tvr_after_results t told results tvr) 2 0
      ≡ bit_or (get_or tvr 2 0) (verified (circumstances_of t told) (verification_list told) results)
  unfolding tvr_after_results
  byte_3 = joined_at tvr set 2

  pub byte_3_low : get_or (tvr_after_results t told results tvr) 2 0 % 4 ≡ get_or tvr 2 0 % 4
  byte_3_low =
      let b = verified (circumstances_of t told) (verification_list told) results in
      let n = get_or tvr 2 0 in
      ap (λ (x : ℕ). x % 4) byte_3
      ∙ (or_mod n b 2 ∙ (ap (bit_or (n % 4)) (six_bits (circumstances_of t told) (verification_list told) results).1 ∙ or_zero_r (n % 4)))

  nothing_else : (i : ℕ) → (i ≡ 2 → ⊥) → get_or set i 0 ≡ 0
  nothing_else zero other = refl
  nothing_else (suc zero) other = refl
  nothing_else (suc (suc zero)) other = absurd (other refl)
  nothing_else (suc (suc (suc zero))) other = refl
  nothing_else (suc (suc (suc (suc zero)))) other = refl
  nothing_else (suc (suc (suc (suc (suc i))))) other = refl

  pub other_bytes : (i : ℕ) → (i ≡ 2 → ⊥) → get_or (tvr_after_results t told results tvr) i 0 ≡ get_or tvr i 0
  unfolding tvr_after_results
  other_bytes i other = stays_at tvr set i (nothing_else i other)

module _ (tsi : List ℕ) where
  pub performed_kept : joined tsi (tsi_after_results tsi) ≡ tsi_after_results tsi
  unfolding tsi_after_results
  performed_kept = kept tsi _

  pub performed_length : length tsi ≡ 2 → length (tsi_after_results tsi) ≡ 2
  unfolding tsi_after_results
  performed_length e = joined_length tsi _ e ∙ e

  one_bit : Bytes (verification_performed ∷ 0 ∷ [])
  one_bit zero = omega arith
  one_bit (suc zero) = omega arith
  one_bit (suc (suc i)) = omega arith

  pub performed_bytes : Bytes tsi → Bytes (tsi_after_results tsi)
  unfolding tsi_after_results
  performed_bytes h = joined_bytes tsi _ h one_bit

  -- b7 of byte 1 is set; b8 and b6 to b1 stay, and the other byte
  or_one : (n : ℕ) → n < 2 → bit_or n 1 ≡ 1
  or_one zero h = refl
  or_one (suc zero) h = refl
  or_one (suc (suc n)) h = omega arith

  pub b7_set : get_or (tsi_after_results tsi) 0 0 / 64 % 2 ≡ 1
  unfolding tsi_after_results
  b7_set = bit_joined 6 tsi _ 0 ∙ or_one (get_or tsi 0 0 / 64 % 2) (omega arith)

  byte_1 : get_or (tsi_after_results tsi) 0 0 ≡ bit_or (get_or tsi 0 0) verification_performed
  unfolding tsi_after_results
  byte_1 = joined_at tsi _ 0

  pub low_bits : get_or (tsi_after_results tsi) 0 0 % 64 ≡ get_or tsi 0 0 % 64
  low_bits =
      let n = get_or tsi 0 0 in
      ap (λ (x : ℕ). x % 64) byte_1 ∙ (or_mod n verification_performed 6 ∙ or_zero_r (n % 64))

  pub high_bits : get_or (tsi_after_results tsi) 0 0 / 128 ≡ get_or tsi 0 0 / 128
  high_bits =
      let n = get_or tsi 0 0 in
      ap (λ (x : ℕ). x / 128) byte_1 ∙ (or_shr n verification_performed 7 ∙ or_zero_r (n / 128))

  pub other_byte : (i : ℕ) → get_or (tsi_after_results tsi) (suc i) 0 ≡ get_or tsi (suc i) 0
  unfolding tsi_after_results
  other_byte zero = stays_at tsi _ 1 refl
  other_byte (suc i) = stays_at tsi _ (suc (suc i)) refl

-- no list has more rules than results go into an entry
pub wanted_few : (told : Facts) → results_wanted told ≤ 122
unfolding results_wanted rules_in verification_list
wanted_few told = omega (arith, length-take value_most (Option.get_or (told 0x8E) []))
