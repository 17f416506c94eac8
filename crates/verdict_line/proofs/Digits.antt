-- Decimal digits: a number below ten is its own digit, and any other ends with its last digit after those of its tenth part. So the
-- digits read back as the number, no zero stands before the first, and a number below 10 ^ k has at most k.
-- Assumes nothing.
use mathlib.Core.Path.{◌≡◌, refl, sym, ap, ◌∙◌}
use mathlib.Core.List.{List, [], ◌∷◌, ◌++◌}
use Prim.Native.Nat.{ℕ, zero, suc, ◌+◌, ◌*◌, ◌-◌, ◌/◌, ◌%◌, ◌^◌, ◌≤◌, ◌<◌}
use native.Mathlib.Nat.{not-suc-le-zero}
use native.Mathlib.Omega.{arith}
use lib.Dec.{ltb}
use lib.ListN.{length, get_or, length-append}
use borrow.Author.Tests.{lt-ltb, le-ltb, ltb-true, ltb-false}
use Rattle.slices.proofs.Choice.{pick_yes, pick_no, pick_cong, either}
use Rattle.verdict_line.specs.Line.{digits_of, decimal, field_of}

-- however many digits are allowed beyond those that there are
enough : (f g n : ℕ) → n < f → n < g → digits_of f n ≡ digits_of g n
unfolding digits_of
enough zero g n h k = absurd (not-suc-le-zero h)
enough (suc f) zero n h k = absurd (not-suc-le-zero k)
enough (suc f) (suc g) n h k =
    pick_cong (ltb n 10) _ _ _ _ (λ y. refl)
    (λ no_digit.
    let large = ltb-false n 10 no_digit in
    ap (λ (l : List ℕ). l ++ ((0x30 + n % 10) ∷ [])) (enough f g (n / 10) (omega arith) (omega arith)))

module _ (n : ℕ) where
  pub decimal_small : n < 10 → decimal n ≡ (0x30 + n) ∷ []
  unfolding decimal digits_of
  decimal_small h = pick_yes _ _ _ (lt-ltb n 10 h)

  pub decimal_large : 10 ≤ n → decimal n ≡ decimal (n / 10) ++ ((0x30 + n % 10) ∷ [])
  unfolding decimal digits_of
  decimal_large h =
      pick_no _ _ _ (le-ltb n 10 h)
      ∙ ap (λ (l : List ℕ). l ++ ((0x30 + n % 10) ∷ [])) (enough n (suc (n / 10)) (n / 10) (omega arith) (omega arith))

  pub small_length : n < 10 → length (decimal n) ≡ 1
  small_length h = ap length (decimal_small h)

  pub large_length : 10 ≤ n → length (decimal n) ≡ length (decimal (n / 10)) + 1
  large_length h = ap length (decimal_large h) ∙ length-append (decimal (n / 10)) _

  pub field_length : length (field_of n) ≡ length (decimal n) + 1
  unfolding field_of
  field_length = omega arith

-- by cases, for what is shown of every number by what holds of its tenth part
module _ (P : ℕ → Type 0) (small : (n : ℕ) → n < 10 → P n) (large : (n : ℕ) → 10 ≤ n → P (n / 10) → P n) where
  below : (f n : ℕ) → n < f → P n
  below zero n h = absurd (not-suc-le-zero h)
  below (suc f) n h =
      either (ltb n 10) (λ y. small n (ltb-true n 10 y))
      (λ no_digit. let big = ltb-false n 10 no_digit in large n big (below f (n / 10) (omega arith)))

  pub by_tenths : (n : ℕ) → P n
  by_tenths n = below (suc n) n (omega arith)

-- the number that digits write
unfoldable pub value_from : ℕ → List ℕ → ℕ
value_from n [] = n
value_from n (d ∷ ds) = value_from (10 * n + (d - 0x30)) ds

value_more : (n : ℕ) (ds : List ℕ) (d : ℕ) → value_from n (ds ++ (d ∷ [])) ≡ 10 * value_from n ds + (d - 0x30)
unfolding value_from
value_more n [] d = refl
value_more n (e ∷ ds) d = value_more (10 * n + (e - 0x30)) ds d

-- the digits of a number read back as the number
pub decimal_value : (n : ℕ) → value_from 0 (decimal n) ≡ n
unfolding value_from
decimal_value =
    by_tenths (λ n. value_from 0 (decimal n) ≡ n) (λ n h. ap (value_from 0) (decimal_small n h) ∙ (omega arith))
    (λ n h tenth.
    ap (value_from 0) (decimal_large n h) ∙ (value_more 0 (decimal (n / 10)) (0x30 + n % 10) ∙ (omega arith)))

-- so no two numbers have the same
pub decimal_apart : (n m : ℕ) → decimal n ≡ decimal m → n ≡ m
decimal_apart n m e = sym (decimal_value n) ∙ (ap (value_from 0) e ∙ decimal_value m)

first_kept : (ds : List ℕ) (d : ℕ) → 1 ≤ length ds → get_or (ds ++ (d ∷ [])) 0 0 ≡ get_or ds 0 0
first_kept [] d h = absurd (not-suc-le-zero h)
first_kept (e ∷ ds) d h = refl

pub decimal_some : (n : ℕ) → 1 ≤ length (decimal n)
decimal_some =
    by_tenths (λ n. 1 ≤ length (decimal n)) (λ n h. let e = ap length (decimal_small n h) in omega arith)
    (λ n h tenth. let e = large_length n h in omega arith)

-- only 0 begins with a zero
pub no_leading_zero : (n : ℕ) → get_or (decimal n) 0 0 ≡ 0x30 → n ≡ 0
no_leading_zero =
    by_tenths (λ n. get_or (decimal n) 0 0 ≡ 0x30 → n ≡ 0)
    (λ n h first. let d = ap (λ (l : List ℕ). get_or l 0 0) (decimal_small n h) in omega arith)
    (λ n h tenth first.
    let d = ap (λ (l : List ℕ). get_or l 0 0) (decimal_large n h) in
    let none : n / 10 ≡ 0 = tenth (sym (d ∙ first_kept (decimal (n / 10)) _ (decimal_some (n / 10))) ∙ first) in
    omega arith)

-- at most k digits below 10 ^ k
pub decimal_most : (k n : ℕ) → n < 10 ^ suc k → length (decimal n) ≤ suc k
decimal_most zero n h = let e = ap length (decimal_small n h) in omega arith
decimal_most (suc k) n h =
    either (ltb n 10) (λ y. let e = ap length (decimal_small n (ltb-true n 10 y)) in omega arith)
    (λ no_digit.
    let large = ltb-false n 10 no_digit in
    let tenth : n / 10 < 10 ^ suc k = omega arith in
    let e = large_length n large in
    let fewer = decimal_most k (n / 10) tenth in
    omega arith)

-- and so many are enough
pub decimal_within : (k n : ℕ) → n < 10 ^ suc k → digits_of (suc k) n ≡ decimal n
unfolding digits_of
decimal_within zero n h = pick_yes _ _ _ (lt-ltb n 10 h) ∙ sym (decimal_small n h)
decimal_within (suc k) n h =
    either (ltb n 10) (λ y. pick_yes _ _ _ y ∙ sym (decimal_small n (ltb-true n 10 y)))
    (λ no_digit.
    let tenth : n / 10 < 10 ^ suc k = omega arith in
    pick_no _ _ _ no_digit
    ∙ (ap (λ (l : List ℕ). l ++ ((0x30 + n % 10) ∷ [])) (decimal_within k (n / 10) tenth)
    ∙ sym (decimal_large n (ltb-false n 10 no_digit))))
