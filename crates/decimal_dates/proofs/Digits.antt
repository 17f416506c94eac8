-- Runs of decimal digits: a part of one is one, and n bytes of digits are a number below 100 ^ n.
-- Assumes nothing.
use mathlib.Core.Path.{◌≡◌, refl, sym, ap, ◌∙◌}
use mathlib.Core.Bool.{Bool, true}
use mathlib.Core.List.{List, [], ◌∷◌, ◌++◌, map, map-append}
use Prim.Native.Nat.{ℕ, ◌≤◌, ◌<◌, ◌+◌, ◌*◌, ◌^◌, ◌/◌, ◌%◌}
use native.Mathlib.Nat.{mul_assoc, mul-le-mul_right, pow-succ', pow-le-pow_right, lt_of_lt_of_le}
use native.Mathlib.Omega.{arith}
use lib.Dec.{lit<}
use lib.ListN.{length, take, drop}
use lib.Seq.{take-add, drop-drop}
use borrow.Author.Tests.{leb-true}
use Rattle.slices.specs.Tests.{every}
use Rattle.decimal_dates.specs.Decimal.{two_digits, decimal_from, decimal, decimal_byte, digits_only}
use Rattle.slices.proofs.Tests.{held, first_held}

every_both : (a b : List Bool) → every (a ++ b) ≡ true → (every a ≡ true) × (every b ≡ true)
unfolding every
every_both [] b e = (refl, e)
every_both (t ∷ a) b e =
    let f = first_held t (a ++ b) e in
    let g = every_both a b f.1 in
    (held refl a f.0 ∙ g.0, g.1)

-- a run in two parts
pub digits_split : (n m from : ℕ) (s : List ℕ) → digits_only (take (n + m) (drop from s)) ≡ true
    → (digits_only (take n (drop from s)) ≡ true) × (digits_only (take m (drop (from + n) s)) ≡ true)
unfolding digits_only
digits_split n m from s e =
    let front = take n (drop from s) in
    let back = take m (drop n (drop from s)) in
    let joined = sym (map-append decimal_byte front back) ∙ ap (map decimal_byte) (sym (take-add n m (drop from s))) in
    let both = every_both (map decimal_byte front) (map decimal_byte back) (ap every joined ∙ e) in
    (both.0, ap (λ (l : List ℕ). every (map decimal_byte (take m l))) (sym (drop-drop n from s)) ∙ both.1)

pub two_digits_lem : (b : ℕ) → decimal_byte b ≡ true → two_digits b ≤ 99
unfolding decimal_byte
two_digits_lem b e =
    let h = first_held _ _ e in
    let l = first_held _ _ h.1 in
    omega (arith, leb-true (b / 16) 9 h.0, leb-true (b % 16) 9 l.0)

-- digits that follow a number make it longer by as many places
below : (n : ℕ) (s : List ℕ) → digits_only s ≡ true → decimal_from n s < (n + 1) * 100 ^ length s
unfolding digits_only decimal_from
below n [] e = omega arith
below n (b ∷ bs) e =
    let h = first_held (decimal_byte b) (map decimal_byte bs) e in
    let rest = below (n * 100 + two_digits b) bs h.1 in
    let more : n * 100 + two_digits b + 1 ≤ (n + 1) * 100 = omega (arith, two_digits_lem b h.0) in
    let longer = ap (λ (k : ℕ). (n + 1) * k) (pow-succ' 100 (length bs)) ∙ sym (mul_assoc (n + 1) 100 (100 ^ length bs)) in
    lt_of_lt_of_le rest (rw longer (mul-le-mul_right (100 ^ length bs) more))

pub twelve_digits : (s : List ℕ) → length s ≤ 6 → digits_only s ≡ true → decimal s ≤ 999999999999
unfolding decimal
twelve_digits s h e = omega (arith, below 0 s e, pow-le-pow_right {n = 100} (lit< tt) h)
