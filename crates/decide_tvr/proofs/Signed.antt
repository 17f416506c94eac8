-- Differences of unsigned numbers and their products, computed at 64 bits with a sign: none of them leaves the range, so
-- what the machine reads back is the integer itself.
-- Assumes nothing.
use mathlib.Core.Path.{◌≡◌, refl, sym, ap₂, subst₂, ◌∙◌}
use mathlib.Core.Bool.{Bool, true, false, cond}
use Prim.Native.Nat.{ℕ, zero, suc, ◌≤◌, ◌<◌, ◌-◌, ◌*◌, ◌^◌}
use native.Mathlib.Nat.{mul-le-mul, lt_of_le_of_lt}
use native.Mathlib.Omega.{arith}
use lib.Dec.{ltb, lit<}
use lib.IntN.{ℤ, pos, negsuc, neg_ℤ, nat_abs, sub_ℕ, ◌-ℤ◌, ◌*ℤ◌}
use borrow.Author.Tests.{ltb-true}
use mir.Syntax.{w64}
use mir.Val.{SFits, to_z, of_z}
use mir.Facts.{to_z-of_z}
use Rattle.decimal_dates.specs.Decimal.{six_bytes_limit}

-- an unsigned number that has room for a sign
pub positive : (n : ℕ) → n < 2 ^ 63 → to_z w64 n ≡ pos n
positive n h = to_z-of_z {w = w64} {z = pos n} (record { sfits = h })

by_test : (P : ℤ → Type 0) (t : Bool) (x y : ℤ) → (t ≡ true → P x) → (t ≡ false → P y) → P (cond t x y)
by_test P true x y yes' no' = yes' refl
by_test P false x y yes' no' = no' refl

-- a difference is no further from zero than the larger of its two numbers
sub_size : (a b h : ℕ) → a ≤ h → b ≤ h → nat_abs (sub_ℕ a b) ≤ h
sub_size a b h p q =
    by_test
    (λ z. nat_abs z ≤ h)
    (ltb a b)
    (negsuc (b - suc a))
    (pos (a - b))
    (λ e. omega (arith, ltb-true a b e))
    (λ e. omega arith)

pub difference_size : (a b h : ℕ) → a ≤ h → b ≤ h → nat_abs (pos a -ℤ pos b) ≤ h
difference_size a zero h p q = omega arith
difference_size a (suc b) h p q = sub_size a (suc b) h p q

-- the size of a product
negated : (n : ℕ) → nat_abs (neg_ℤ (pos n)) ≡ n
negated zero = refl
negated (suc n) = refl

product_size : (x y : ℤ) → nat_abs (x *ℤ y) ≡ nat_abs x * nat_abs y
product_size (pos a) (pos b) = refl
product_size (pos a) (negsuc b) = negated (a * suc b)
product_size (negsuc a) (pos b) = negated (suc a * b)
product_size (negsuc a) (negsuc b) = refl

fits_by_size : (z : ℤ) → nat_abs z < 2 ^ 63 → SFits w64 z
fits_by_size (pos n) h = record { sfits = h }
fits_by_size (negsuc n) h = record { sfits = omega arith }

-- a difference as the machine has it
abbrev pub less : ℕ → ℕ → ℤ
less a b = to_z w64 (of_z w64 (to_z w64 a -ℤ to_z w64 b))

module _ (a b : ℕ) (p : a < 2 ^ 63) (q : b < 2 ^ 63) where
  pub difference_fits : SFits w64 (to_z w64 a -ℤ to_z w64 b)
  difference_fits =
      subst₂ (λ x y. SFits w64 (x -ℤ y)) (sym (positive a p)) (sym (positive b q))
      (fits_by_size (pos a -ℤ pos b) (lt_of_le_of_lt (difference_size a b (2 ^ 63 - 1) (omega arith) (omega arith)) (lit< tt)))

  difference_back : less a b ≡ pos a -ℤ pos b
  difference_back = to_z-of_z difference_fits ∙ ap₂ ◌-ℤ◌ (positive a p) (positive b q)

-- a difference of percentages times a difference of amounts
module _ (a b c d : ℕ) (p : a < 256) (q : b < 256) (r : c < six_bytes_limit) (s : d < six_bytes_limit) where
  factors : less a b *ℤ less c d ≡ (pos a -ℤ pos b) *ℤ (pos c -ℤ pos d)
  factors = ap₂ ◌*ℤ◌ (difference_back a b (omega arith) (omega arith)) (difference_back c d (omega arith) (omega arith))

  size : nat_abs ((pos a -ℤ pos b) *ℤ (pos c -ℤ pos d)) ≤ 255 * six_bytes_limit
  size = rw product_size
      (mul-le-mul (difference_size a b 255 (omega arith) (omega arith)) (difference_size c d six_bytes_limit (omega arith) (omega arith)))

  pub product_fits : SFits w64 (less a b *ℤ less c d)
  product_fits = rw factors (fits_by_size _ (lt_of_le_of_lt size (lit< tt)))

  pub product_back : to_z w64 (of_z w64 (less a b *ℤ less c d)) ≡ (pos a -ℤ pos b) *ℤ (pos c -ℤ pos d)
  product_back = to_z-of_z product_fits ∙ factors
