-- Zeros behind a payload: they only shift the register, so where they are there, the check of a block is that of what stands before
-- them, shifted so often. Assumes nothing.
use mathlib.Core.Path.{◌≡◌, refl, sym, ap, ap₂, ◌∙◌}
use mathlib.Core.Bool.{true}
use mathlib.Core.List.{List, [], ◌∷◌, ◌++◌}
use Prim.Native.Nat.{ℕ, zero, suc, ◌+◌, ◌*◌, ◌-◌, ◌≤◌}
use native.Mathlib.Omega.{arith}
use lib.Bits.{bit_xor, xor_zero_r}
use lib.Dec.{eqb}
use lib.ListN.{length, take, drop, length-replicate, length-drop}
use lib.Seq.{length-take-le, take-add, drop-drop}
use borrow.Author.Tests.{eqb-true}
use Rattle.slices.specs.Writing.{zeros}
use Rattle.slices.proofs.Choice.{and_left, and_right}
use Rattle.tape_crc.specs.Check.{divided, running_of, ones, check_of, covered, block_check_of}
use Rattle.tape_crc.proofs.Together.{low_first, together}
use Rattle.tape_crc.proofs.Laws.{running_append}
use Rattle.tape_read.specs.Blocks.{all_zero}
use Rattle.tape_read.proofs.Extra.{zeros_bytes}
use Rattle.quick_check.specs.Tables.{step}

-- as many bytes as are taken, where they are there
pub ruleset part_taken = (length-take-le)

no_number : (n : ℕ) → low_first (zeros n) ≡ 0
unfolding zeros
no_number zero = refl
no_number (suc n) = ap (λ (x : ℕ). 0 + x * 256) (no_number n)

size : (n : ℕ) → length (zeros n) ≡ n
unfolding zeros
size n = length-replicate n 0

running_zeros : (r n : ℕ) → running_of r (zeros n) ≡ divided (8 * n) r
running_zeros r n =
    together r (zeros n) (zeros_bytes n) ∙ ap₂ (λ (k x : ℕ). divided (8 * k) x) (size n) (ap (bit_xor r) (no_number n) ∙ xor_zero_r r)

all_zeros : (s : List ℕ) → all_zero s ≡ true → s ≡ zeros (length s)
unfolding all_zero zeros
all_zeros [] e = refl
all_zeros (x ∷ s) e =
    ap₂ ◌∷◌ (eqb-true x 0 (and_left (eqb x 0) (all_zero s) e)) (all_zeros s (and_right (eqb x 0) (all_zero s) e))

-- the last of them are zeros too
last_zeros : (s t : List ℕ) → all_zero (s ++ t) ≡ true → all_zero t ≡ true
unfolding all_zero
last_zeros [] t e = e
last_zeros (x ∷ s) t e = last_zeros s t (and_right (eqb x 0) (all_zero (s ++ t)) e)

-- a block with zeros from a place on up to its check, of which so many times 32 are passed
module _ (b : List ℕ) (from f : ℕ) (there : covered ≤ length b) (fits : from + step * f ≤ covered)
    (clear : all_zero (take (covered - from) (drop from b)) ≡ true) where
  -- what is taken in, and what is passed
  abbrev used : ℕ
  used = covered - step * f

  behind : all_zero (take (step * f) (drop used b)) ≡ true
  behind =
      last_zeros (take (used - from) (drop from b)) (take (step * f) (drop used b))
      (sym
      (ap (λ (k : ℕ). all_zero (take k (drop from b))) whole
      ∙ ap all_zero
      (take-add (used - from) (step * f) (drop from b)
      ∙ ap (λ (s : List ℕ). take (used - from) (drop from b) ++ take (step * f) s)
      (drop-drop (used - from) from b ∙ ap (λ (k : ℕ). drop k b) place)))
      ∙ clear)
    where
      whole : covered - from ≡ used - from + step * f
      whole = omega arith

      place : from + (used - from) ≡ used
      place = omega arith

  parts : take covered b ≡ take used b ++ zeros (step * f)
  parts =
      ap (λ (k : ℕ). take k b) both
      ∙ (take-add used (step * f) b
      ∙ ap (λ (s : List ℕ). take used b ++ s)
      (all_zeros (take (step * f) (drop used b)) behind
      ∙ ap zeros (length-take-le (step * f) (drop used b) (omega (arith, length-drop used b)))))
    where
      both : covered ≡ used + step * f
      both = omega arith

  pub check_passing : block_check_of b ≡ bit_xor (divided (8 * (step * f)) (running_of ones (take used b))) ones
  unfolding block_check_of check_of
  check_passing =
      ap (λ (s : List ℕ). bit_xor (running_of ones s) ones) parts
      ∙ ap (λ (r : ℕ). bit_xor r ones)
      (running_append ones (take used b) (zeros (step * f)) ∙ running_zeros (running_of ones (take used b)) (step * f))
