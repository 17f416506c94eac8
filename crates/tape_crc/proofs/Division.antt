-- The division is linear: what two numbers leave, joined by exclusive or, is what the two so joined leave. And zeros at
-- the low end only shift out. So a register is divided by its low bits alone, and its high bits move down past them.
-- Assumes nothing.
use mathlib.Core.Path.{◌≡◌, refl, sym, ap, ap₂, ◌∙◌}
use Prim.Native.Nat.{ℕ, zero, suc, ◌+◌, ◌*◌, ◌/◌, ◌%◌, ◌^◌, ◌<◌}
use native.Mathlib.Nat.{mod-lt, zero-lt-suc, zero-add, suc-add, zero-mul, one-mul, mul-one}
use native.Mathlib.Omega.{arith}
use lib.Bits.{bit_xor, xor_comm, xor_zero_r, xor_lt, xor_shifted, shifted_half, shifted_even}
use lib.Dec.{eqb}
use lib.Pow.{split, pow_pos}
use borrow.Author.Tests.{eqb-true, eqb-false}
use Rattle.slices.proofs.Choice.{picked}
use Rattle.tape_crc.specs.Check.{divisor, shifted, divided}
use Rattle.tape_crc.proofs.Xor.{xor_half, xor_odd, xor_inner, differ_times}

-- the choice of the rule as a product: the bit that falls out times the divisor
pub shifted_times : (r : ℕ) → shifted r ≡ bit_xor (r / 2) (r % 2 * divisor)
unfolding shifted
shifted_times r =
    picked (λ (x : ℕ). x ≡ bit_xor (r / 2) (r % 2 * divisor)) (eqb (r % 2) 1) _ _
    (λ e. ap (bit_xor (r / 2)) (sym (ap (λ (x : ℕ). x * divisor) (eqb-true (r % 2) 1 e) ∙ one-mul divisor)))
    (λ e. sym (ap (bit_xor (r / 2)) (ap (λ (x : ℕ). x * divisor) (even (eqb-false (r % 2) 1 e)) ∙ zero-mul divisor) ∙ xor_zero_r (r / 2)))
  where
    even : (r % 2 ≡ 1 → ⊥) → r % 2 ≡ 0
    even n = omega (arith, n)

shifted_xor : (a b : ℕ) → shifted (bit_xor a b) ≡ bit_xor (shifted a) (shifted b)
shifted_xor a b =
    shifted_times (bit_xor a b)
    ∙ (ap₂ (λ (x y : ℕ). bit_xor x (y * divisor)) (xor_half a b) (xor_odd a b)
    ∙ (ap (bit_xor (bit_xor (a / 2) (b / 2))) (differ_times (a % 2) (b % 2) divisor (mod-lt a (zero-lt-suc 1)) (mod-lt b (zero-lt-suc 1)))
    ∙ (xor_inner (a / 2) (b / 2) (a % 2 * divisor) (b % 2 * divisor)
    ∙ sym (ap₂ bit_xor (shifted_times a) (shifted_times b)))))

pub divided_xor : (n a b : ℕ) → divided n (bit_xor a b) ≡ bit_xor (divided n a) (divided n b)
unfolding divided
divided_xor zero a b = refl
divided_xor (suc n) a b = ap (divided n) (shifted_xor a b) ∙ divided_xor n (shifted a) (shifted b)

-- zeros at the low end shift out
pub divided_zeros : (n q : ℕ) → divided n (q * 2 ^ n) ≡ q
unfolding divided
divided_zeros zero q = mul-one q
divided_zeros (suc n) q =
    ap (divided n)
    (shifted_times (q * 2 ^ suc n)
    ∙ (ap₂ (λ (x y : ℕ). bit_xor x (y * divisor)) (shifted_half q n) (shifted_even q n)
    ∙ (ap (bit_xor (q * 2 ^ n)) (zero-mul divisor) ∙ xor_zero_r (q * 2 ^ n))))
    ∙ divided_zeros n q

-- m bits and then n more
pub divided_more : (m n x : ℕ) → divided (m + n) x ≡ divided n (divided m x)
unfolding divided
divided_more zero n x = ap (λ (k : ℕ). divided k x) (zero-add n)
divided_more (suc m) n x = ap (λ (k : ℕ). divided k x) (suc-add m n) ∙ divided_more m n (shifted x)

-- what is added after n bits might have been added before them, n bits higher
pub divided_late : (n x y : ℕ) → bit_xor (divided n x) y ≡ divided n (bit_xor x (y * 2 ^ n))
divided_late n x y = sym (divided_xor n x (y * 2 ^ n) ∙ ap (bit_xor (divided n x)) (divided_zeros n y))

-- the low n bits decide what is taken away, and the rest moves down
pub divided_apart : (n x : ℕ) → divided n x ≡ bit_xor (divided n (x % 2 ^ n)) (x / 2 ^ n)
divided_apart n x =
    ap (divided n) (sym (split x n) ∙ sym (xor_shifted (x / 2 ^ n) n (x % 2 ^ n) (mod-lt x (pow_pos n))))
    ∙ (divided_xor n (x / 2 ^ n * 2 ^ n) (x % 2 ^ n)
    ∙ (ap (λ (y : ℕ). bit_xor y (divided n (x % 2 ^ n))) (divided_zeros n (x / 2 ^ n))
    ∙ xor_comm (x / 2 ^ n) (divided n (x % 2 ^ n))))

-- a register of 32 bits stays one
pub shifted_below : (r : ℕ) → r < 2 ^ 32 → shifted r < 2 ^ 32
unfolding shifted divisor
shifted_below r h =
    picked (λ (x : ℕ). x < 2 ^ 32) (eqb (r % 2) 1) _ _
    (λ e. xor_lt 32 (r / 2) divisor (omega arith) (omega arith))
    (λ e. omega arith)

pub divided_below : (n r : ℕ) → r < 2 ^ 32 → divided n r < 2 ^ 32
unfolding divided
divided_below zero r h = h
divided_below (suc n) r h = divided_below n (shifted r) (shifted_below r h)
