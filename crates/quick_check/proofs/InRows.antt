-- What stands in the rows: in row m at the place j, what the byte j leaves when m further bytes of zeros are shifted out behind it.
-- Assumes nothing.
use mathlib.Core.Path.{◌≡◌, sym, ap, ◌∙◌}
use mathlib.Core.Bool.{true}
use mathlib.Core.List.{List, [], ◌∷◌}
use Prim.Native.Nat.{ℕ, zero, suc, ◌+◌, ◌*◌, ◌/◌, ◌%◌, ◌<◌}
use native.Mathlib.Nat.{le_of_suc-le-suc, not-suc-le-zero}
use native.Mathlib.Omega.{arith}
use lib.Bits.{bit_xor}
use lib.Dec.{eqb}
use lib.ListN.{length, get_or, take, drop, length-drop}
use lib.Seq.{length-take-le, get_or-take, get_or-drop}
use borrow.Author.Tests.{eqb-true}
use Rattle.slices.proofs.Choice.{and_left, and_right}
use Rattle.tape_crc.specs.Check.{divided}
use Rattle.tape_crc.specs.Tables.{moved, Remainders}
use Rattle.tape_crc.proofs.Division.{divided_more}
use Rattle.tape_crc.proofs.ByTable.{remainder, byte_out}
use Rattle.quick_check.specs.Tables.{each_moved, Rows}

moved_at : (first ts us : List ℕ) → each_moved first ts us ≡ true → (k : ℕ) → k < length us → get_or us k 0 ≡ moved first (get_or ts k 0)
moved_at first ts [] e k inside = absurd (not-suc-le-zero inside)
moved_at first [] (u ∷ us) e k inside =
    let z : ◌≡◌ {A = ℕ} 0 1 = cc in
    absurd (omega arith)
moved_at first (t ∷ ts) (u ∷ us) e zero inside = eqb-true u (moved first t) (and_left (eqb u (moved first t)) (each_moved first ts us) e)
moved_at first (t ∷ ts) (u ∷ us) e (suc k) inside =
    moved_at first ts us (and_right (eqb u (moved first t)) (each_moved first ts us) e) k (le_of_suc-le-suc inside)

module _ {t : List ℕ} (h : Rows t) where
  remainders : Remainders (take 256 t)
  remainders = record { size = length-take-le 256 t (omega (arith, h.size)); rule = h.leaving }

  -- a byte that falls out of a register, by the first row
  out : (x : ℕ) → divided 8 x ≡ moved t x
  out x = byte_out remainders x ∙ ap (bit_xor (x / 256)) (get_or-take 256 t (x % 256) 0 (omega arith))

  pub row_at : (m : ℕ) → m < 8 → (j : ℕ) → j < 256 → get_or t (256 * m + j) 0 ≡ divided (8 + 8 * m) j
  row_at zero few j byte =
      ap (λ (k : ℕ). get_or t k 0) (omega arith) ∙ (sym (get_or-take 256 t j 0 byte) ∙ remainder remainders j byte)
  row_at (suc m) few j byte =
      let k = 256 * m + j in
      ap (λ (i : ℕ). get_or t i 0) (place m j)
      ∙ (sym (get_or-drop 256 t k 0)
      ∙ (moved_at t t (drop 256 t) h.moving k (omega (arith, h.size, length-drop 256 t))
      ∙ (sym (out (get_or t k 0))
      ∙ (ap (divided 8) (row_at m (omega arith) j byte)
      ∙ (sym (divided_more (8 + 8 * m) 8 j) ∙ ap (λ (n : ℕ). divided n j) (further m))))))
    where
      place : (m j : ℕ) → 256 * suc m + j ≡ 256 + (256 * m + j)
      place m j = omega arith

      further : (m : ℕ) → 8 + 8 * m + 8 ≡ 8 + 8 * suc m
      further m = omega arith
