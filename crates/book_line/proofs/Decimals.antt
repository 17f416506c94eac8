-- The decimal digits of a number of four bytes read back as that number, and none of them ends a word. Assumes nothing.
use mathlib.Core.Path.{◌≡◌, refl, sym, ap, ◌∙◌}
use mathlib.Core.Bool.{true, false, ◌&&◌}
use mathlib.Core.List.{List, [], ◌∷◌, ◌++◌}
use Prim.Native.Nat.{ℕ, ◌+◌, ◌*◌, ◌-◌, ◌/◌, ◌%◌, ◌≤◌, ◌<◌}
use native.Mathlib.Omega.{arith}
use lib.Dec.{eqb, ltb}
use lib.ListN.{length}
use borrow.Author.Tests.{lt-ltb, le-leb, ne_eqb}
use Rattle.slices.proofs.Choice.{pick_yes, pick_no, and_both, either}
use Rattle.text_hex.specs.Digits.{among, digit}
use Rattle.verdict_line.specs.Line.{decimal}
use Rattle.verdict_line.proofs.Digits.{decimal_small, decimal_large, large_length, by_tenths}
use Rattle.text_lines.specs.Decimal.{no_number, number_from, number_in}
use Rattle.book_line.proofs.Words.{free, free_append}

digit_is : (x : ℕ) → x < 10 → digit (0x30 + x) ≡ x
unfolding digit among
digit_is x h =
    let low : 0x30 ≤ 0x30 + x = omega arith in
    let high : 0x30 + x ≤ 0x39 = omega arith in
    let back : 0x30 + x - 0x30 ≡ x = omega arith in
    pick_yes _ _ _ (and_both _ _ (le-leb 0x30 (0x30 + x) low) (le-leb (0x30 + x) 0x39 high)) ∙ back

-- one digit more
number_more : (m : ℕ) (ds : List ℕ) (k x : ℕ) → x < 10 → 10 * k + x < no_number → number_from m ds ≡ k
    → number_from m (ds ++ ((0x30 + x) ∷ [])) ≡ 10 * k + x
unfolding number_from
number_more m [] k x h fits e =
    let d = digit_is x h in
    let digit_small : digit (0x30 + x) < 10 = omega arith in
    let same : 10 * m + digit (0x30 + x) ≡ 10 * k + x = omega arith in
    let small : 10 * m + digit (0x30 + x) < no_number = omega arith in
    pick_yes _ _ _ (and_both _ _ (lt-ltb _ _ digit_small) (lt-ltb _ _ small)) ∙ same
number_more m (b ∷ s) k x h fits e =
    either (ltb (digit b) 10 && ltb (10 * m + digit b) no_number)
    (λ y. pick_yes _ _ _ y ∙ number_more (10 * m + digit b) s k x h fits (sym (pick_yes _ _ _ y) ∙ e))
    (λ n.
    let over : no_number ≡ k = sym (pick_no _ _ _ n) ∙ e in
    absurd (omega arith))

none : number_from 0 [] ≡ 0
unfolding number_from
none = refl

from_decimal : (n : ℕ) → n < no_number → number_from 0 (decimal n) ≡ n
from_decimal =
    by_tenths (λ n. n < no_number → number_from 0 (decimal n) ≡ n)
    (λ n small fits.
    let whole : 10 * 0 + n ≡ n = omega arith in
    ap (number_from 0) (decimal_small n small) ∙ (number_more 0 [] 0 n small (omega arith) none ∙ whole))
    (λ n large tenth fits.
    let whole : 10 * (n / 10) + n % 10 ≡ n = omega arith in
    ap (number_from 0) (decimal_large n large)
    ∙ (number_more 0 (decimal (n / 10)) (n / 10) (n % 10) (omega arith) (omega arith) (tenth (omega arith)) ∙ whole))

pub some_digits : (n : ℕ) → length (decimal n) ≡ 0 → ⊥
some_digits =
    by_tenths (λ n. length (decimal n) ≡ 0 → ⊥)
    (λ n small e. omega (arith, ap length (decimal_small n small)))
    (λ n large tenth e. omega (arith, large_length n large))

-- read back
pub number_back : (n : ℕ) → n < no_number → number_in (decimal n) ≡ n
unfolding number_in
number_back n fits = pick_no _ _ _ (ne_eqb _ _ (some_digits n)) ∙ from_decimal n fits

digit_free : (a b x : ℕ) → a < 0x30 → b < 0x30 → free a b ((0x30 + x) ∷ []) ≡ true
unfolding free
digit_free a b x h k =
    let p : eqb (0x30 + x) a ≡ false = ne_eqb (0x30 + x) a (λ e. omega arith) in
    let q : eqb (0x30 + x) b ≡ false = ne_eqb (0x30 + x) b (λ e. omega arith) in
    rw (p, q)

pub decimal_free : (a b : ℕ) → a < 0x30 → b < 0x30 → (n : ℕ) → free a b (decimal n) ≡ true
decimal_free a b h k =
    by_tenths (λ n. free a b (decimal n) ≡ true)
    (λ n small. ap (free a b) (decimal_small n small) ∙ digit_free a b n h k)
    (λ n large tenth. ap (free a b) (decimal_large n large) ∙ free_append a b (decimal (n / 10)) _ tenth (digit_free a b (n % 10) h k))
