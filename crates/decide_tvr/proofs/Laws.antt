-- What holds of the TVR and the TSI whatever the card sends: no bit is ever cleared, neither changes its length, their bytes
-- stay bytes, and what cardholder verification sets is not touched here: TVR byte 3, and TSI byte 1 b7. Each follows from their
-- being joined to what stood there.
-- Assumes nothing.
use mathlib.Core.Path.{◌≡◌, refl, ◌∙◌}
use mathlib.Core.Bool.{Bool}
use mathlib.Core.List.{List, [], ◌∷◌}
use mathlib.Core.Option
use Prim.Native.Nat.{ℕ, zero, suc, ◌+◌, ◌/◌, ◌%◌, ◌≤◌, ◌<◌}
use native.Mathlib.Omega.{arith}
use lib.Bits.{or_lt}
use lib.ListN.{length, get_or}
use Rattle.slices.proofs.Choice.{picked}
use Rattle.start_fields.specs.Reading.{Terminal}
use Rattle.decide_tvr.specs.Bits.{joined, flag}
use Rattle.facts.specs.Facts.{Facts}
use Rattle.decide_tvr.specs.Results.{risk_managed, at_floor_limit, drawn, different_versions, expired, not_yet_effective}
use Rattle.decide_tvr.specs.Results.{restrictions, risks, tvr_after_records, tsi_after_records, tsi_after_first_answer}
use Rattle.decide_tvr.proofs.Rows.{kept, joined_length, stays_at, bit_stays}

flag_small : (t : Bool) (bit : ℕ) → flag t bit ≤ bit
unfolding flag
flag_small t bit = picked (λ n. n ≤ bit) t bit 0 (λ e. omega arith) (λ e. omega arith)

-- every element is a byte
abbrev pub Bytes : List ℕ → Type 0
Bytes l = (i : ℕ) → get_or l i 0 < 256

pub joined_bytes : (a b : List ℕ) → Bytes a → Bytes b → Bytes (joined a b)
unfolding joined
joined_bytes [] b p q i = q i
joined_bytes (x ∷ a) [] p q i = p i
joined_bytes (x ∷ a) (y ∷ b) p q zero = or_lt 8 x y (p 0) (q 0)
joined_bytes (x ∷ a) (y ∷ b) p q (suc i) = joined_bytes a b (λ j. p (suc j)) (λ j. q (suc j)) i

module _ (t : Terminal) (aip : List ℕ) (f : Facts) (tvr : List ℕ) where
  pub tvr_kept : joined tvr (tvr_after_records t aip f tvr) ≡ tvr_after_records t aip f tvr
  unfolding tvr_after_records
  tvr_kept = kept tvr _

  pub tvr_length : length tvr ≡ 5 → length (tvr_after_records t aip f tvr) ≡ 5
  unfolding tvr_after_records
  tvr_length e = joined_length tvr _ e ∙ e

  pub byte_3_stays : get_or (tvr_after_records t aip f tvr) 2 0 ≡ get_or tvr 2 0
  unfolding tvr_after_records
  byte_3_stays = stays_at tvr _ 2 refl

  restrictions_byte : restrictions t f < 256
  unfolding restrictions
  restrictions_byte =
      omega (
        arith,
        flag_small (different_versions t (f 0x9F08)) 0x80,
        flag_small (expired t (Option.get_or (f 0x5F24) [])) 0x40,
        flag_small
            (not_yet_effective t (f 0x5F25)) 0x20,
      )

  risks_byte : risks t aip < 256
  unfolding risks
  risks_byte =
      picked
      (λ n. n < 256)
      (risk_managed aip)
      (flag (at_floor_limit t) 0x80 + flag (drawn t) 0x10)
      0
      (λ e. omega (arith, flag_small (at_floor_limit t) 0x80, flag_small (drawn t) 0x10))
      (λ e. omega arith)

  five_bytes : Bytes (0x80 ∷ restrictions t f ∷ 0 ∷ risks t aip ∷ 0 ∷ [])
  five_bytes zero = omega arith
  five_bytes (suc zero) = restrictions_byte
  five_bytes (suc (suc zero)) = omega arith
  five_bytes (suc (suc (suc zero))) = risks_byte
  five_bytes (suc (suc (suc (suc zero)))) = omega arith
  five_bytes (suc (suc (suc (suc (suc i))))) = omega arith

  pub tvr_bytes : Bytes tvr → Bytes (tvr_after_records t aip f tvr)
  unfolding tvr_after_records
  tvr_bytes h = joined_bytes tvr _ h five_bytes

module _ (tsi : List ℕ) where
  pub tsi_kept : (aip : List ℕ) → joined tsi (tsi_after_records aip tsi) ≡ tsi_after_records aip tsi
  unfolding tsi_after_records
  tsi_kept aip = kept tsi _

  pub tsi_kept_on : joined tsi (tsi_after_first_answer tsi) ≡ tsi_after_first_answer tsi
  unfolding tsi_after_first_answer
  tsi_kept_on = kept tsi _

  pub tsi_length : (aip : List ℕ) → length tsi ≡ 2 → length (tsi_after_records aip tsi) ≡ 2
  unfolding tsi_after_records
  tsi_length aip e = joined_length tsi _ e ∙ e

  pub tsi_length_on : length tsi ≡ 2 → length (tsi_after_first_answer tsi) ≡ 2
  unfolding tsi_after_first_answer
  tsi_length_on e = joined_length tsi _ e ∙ e

  pub b7_stays : (aip : List ℕ) → get_or (tsi_after_records aip tsi) 0 0 / 64 % 2 ≡ get_or tsi 0 0 / 64 % 2
  unfolding tsi_after_records
  b7_stays aip = bit_stays 6 tsi _ 0 (omega (arith, flag_small (risk_managed aip) 0x08))

  pub b7_stays_on : get_or (tsi_after_first_answer tsi) 0 0 / 64 % 2 ≡ get_or tsi 0 0 / 64 % 2
  unfolding tsi_after_first_answer
  b7_stays_on = bit_stays 6 tsi _ 0 refl

  two_bytes : (b : ℕ) → b < 256 → Bytes (b ∷ 0 ∷ [])
  two_bytes b h zero = h
  two_bytes b h (suc zero) = omega arith
  two_bytes b h (suc (suc i)) = omega arith

  pub tsi_bytes : (aip : List ℕ) → Bytes tsi → Bytes (tsi_after_records aip tsi)
  unfolding tsi_after_records
  tsi_bytes aip h = joined_bytes tsi _ h (two_bytes (flag (risk_managed aip) 0x08) (omega (arith, flag_small (risk_managed aip) 0x08)))

  pub tsi_bytes_on : Bytes tsi → Bytes (tsi_after_first_answer tsi)
  unfolding tsi_after_first_answer
  tsi_bytes_on h = joined_bytes tsi _ h (two_bytes 0x20 (omega arith))
