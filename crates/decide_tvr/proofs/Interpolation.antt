-- The biased selection is that of 003, 7.6.2: the random number is at most the target percentage plus the interpolation
-- factor's share of the way to the maximum. Multiplied by floor limit minus threshold this is a comparison of natural
-- numbers, and no quotient is rounded. Assumes nothing.
use mathlib.Core.Path.{◌≡◌, refl, sym, ap, ap₂, ◌∙◌}
use mathlib.Core.Bool.{Bool, true, false, cond}
use Prim.Native.Nat.{ℕ, zero, suc, ◌+◌, ◌-◌, ◌*◌, ◌≤◌, ◌<◌}
use native.Mathlib.Nat.{add-mul, mul-le-mul_right, not-suc-le-zero, le_of_lt, le_trans, le-add_right}
use native.Mathlib.Omega.{arith}
use lib.Dec.{leb, leb-zero}
use lib.IntN.{pos, negsuc, neg_ℤ, ◌-ℤ◌, ◌*ℤ◌}
use lib.Signed.{le_z}
use borrow.Author.Tests.{le-leb, lt-leb, leb-true, leb-false, lt-ltb, le-ltb}
use Rattle.decide_tvr.specs.Selection.{biased}

-- a difference of natural numbers, by which is the larger
upward : (a b : ℕ) → b ≤ a → pos a -ℤ pos b ≡ pos (a - b)
upward a zero h = ap pos (omega arith)
upward a (suc b) h = ap (λ t. cond t (negsuc (suc b - suc a)) (pos (a - suc b))) (le-ltb a (suc b) h)

downward : (a b : ℕ) → a < b → pos a -ℤ pos b ≡ negsuc (b - suc a)
downward a zero h = absurd (not-suc-le-zero h)
downward a (suc b) h = ap (λ t. cond t (negsuc (suc b - suc a)) (pos (a - suc b))) (lt-ltb a (suc b) h)

-- the same number added on both sides
shifted : (x y w : ℕ) → leb x y ≡ leb (x + w) (w + y)
shifted x y w = by (leb x y) refl
  where
    by : (t : Bool) → leb x y ≡ t → t ≡ leb (x + w) (w + y)
    by true e = sym (le-leb (x + w) (w + y) (omega (arith, leb-true x y e)))
    by false e = sym (lt-leb (x + w) (w + y) (omega (arith, leb-false x y e)))

-- nothing below zero exceeds a natural number
below_zero : (k y : ℕ) → le_z (neg_ℤ (pos k)) (pos y) ≡ true
below_zero zero y = leb-zero y
below_zero (suc k) y = refl

module _ (r t m a f h : ℕ) (tm : t ≤ m) (ha : h ≤ a) (hf : h ≤ f) where
  share : (pos m -ℤ pos t) *ℤ (pos a -ℤ pos h) ≡ pos ((m - t) * (a - h))
  share = ap₂ ◌*ℤ◌ (upward m t tm) (upward a h ha)

  -- the random number has reached the target
  above : t ≤ r → biased r t m a f h ≡ leb (r * (f - h)) (t * (f - h) + (m - t) * (a - h))
  unfolding biased
  above tr =
      let whole : r - t + t ≡ r = omega arith in
      let sum = sym (add-mul (r - t) t (f - h)) ∙ ap (λ (n : ℕ). n * (f - h)) whole in
      ap₂ le_z (ap₂ ◌*ℤ◌ (upward r t tr) (upward f h hf)) share
      ∙ (shifted ((r - t) * (f - h)) ((m - t) * (a - h)) (t * (f - h)) ∙ ap (λ (n : ℕ). leb n (t * (f - h) + (m - t) * (a - h))) sum)

  -- it lies below
  under : r < t → biased r t m a f h ≡ leb (r * (f - h)) (t * (f - h) + (m - t) * (a - h))
  unfolding biased
  under rt =
      let most : r * (f - h) ≤ t * (f - h) = mul-le-mul_right (f - h) (le_of_lt rt) in
      ap₂ le_z (ap₂ ◌*ℤ◌ (downward r t rt) (upward f h hf)) share
      ∙ (below_zero (suc (t - suc r) * (f - h)) ((m - t) * (a - h)) ∙ sym (le-leb (r * (f - h)) _ (le_trans most (le-add_right _ _))))

  pub interpolated : biased r t m a f h ≡ leb (r * (f - h)) (t * (f - h) + (m - t) * (a - h))
  interpolated = by (leb t r) refl
    where
      by : (b : Bool) → leb t r ≡ b → biased r t m a f h ≡ leb (r * (f - h)) (t * (f - h) + (m - t) * (a - h))
      by true e = above (leb-true t r e)
      by false e = under (leb-false t r e)
