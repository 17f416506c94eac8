-- Numbers as bytes: what was written in enough bytes is read back, and bytes that read as the same number in the same width
-- are the same. Both hold at every width, digit by digit. Assumes nothing.
use mathlib.Core.Path.{◌≡◌, refl, sym, ap, ap₂, ◌∙◌, subst}
use mathlib.Core.Bool.{true}
use mathlib.Core.List.{List, [], ◌∷◌, ◌++◌}
use Prim.Native.Nat.{ℕ, zero, suc, ◌+◌, ◌*◌, ◌/◌, ◌%◌, ◌^◌, ◌<◌}
use native.Mathlib.Nat.{pow-succ', one-le-pow, mod-lt, mod-one, mod-eq_of_lt}
use native.Mathlib.Nat.{mul_assoc, add-mul, add_assoc, zero-lt-suc, zero-add, zero-mul}
use native.Mathlib.Omega.{arith}
use lib.Arith.{digits_lt, digits_div, digits_mod, mod-mul}
use lib.ListN.{length, length-append}
use lib.Pow.{pow-add, are_bytes}
use Rattle.tape_crc.proofs.Bytes.{bytes_head, bytes_rest, bytes_cons}
use Rattle.tape_read.specs.Numbers.{number_of, bytes_of}

positive : (w : ℕ) → 0 < 256 ^ w
positive w = one-le-pow w 256 (zero-lt-suc 255)

pub bytes_length : (w n : ℕ) → length (bytes_of w n) ≡ w
unfolding bytes_of
bytes_length zero n = refl
bytes_length (suc w) n = ap suc (bytes_length w n)

pub bytes_are : (w n : ℕ) → are_bytes (bytes_of w n) ≡ true
unfolding bytes_of
bytes_are zero n = refl
bytes_are (suc w) n = bytes_cons (n / 256 ^ w % 256) (bytes_of w n) (mod-lt (n / 256 ^ w) (zero-lt-suc 255)) (bytes_are w n)

-- what a width cannot hold is lost
number_of_bytes : (w n : ℕ) → number_of (bytes_of w n) ≡ n % 256 ^ w
unfolding number_of bytes_of
number_of_bytes zero n = sym (mod-one n)
number_of_bytes (suc w) n =
    ap₂ (λ (k m : ℕ). n / 256 ^ w % 256 * 256 ^ k + m) (bytes_length w n) (number_of_bytes w n)
    ∙ sym (ap (λ (m : ℕ). n % m) (pow-succ' 256 w) ∙ mod-mul n (zero-lt-suc 255) (positive w))

-- reading what was written gives the number back
pub number_back : (w n : ℕ) → n < 256 ^ w → number_of (bytes_of w n) ≡ n
number_back w n h = number_of_bytes w n ∙ mod-eq_of_lt h

pub number_below : (s : List ℕ) → are_bytes s ≡ true → number_of s < 256 ^ length s
unfolding number_of
number_below [] e = zero-lt-suc 0
number_below (b ∷ s) e =
    subst (λ (m : ℕ). number_of (b ∷ s) < m) (sym (pow-succ' 256 (length s)))
    (digits_lt (bytes_head b s e) (number_below s (bytes_rest b s e)))

-- one number, one run of bytes
pub number_same : (s t : List ℕ) → are_bytes s ≡ true → are_bytes t ≡ true → length s ≡ length t → number_of s ≡ number_of t → s ≡ t
unfolding number_of
number_same [] [] e f l n = refl
number_same [] (c ∷ t) e f l n = absurd (omega arith)
number_same (b ∷ s) [] e f l n = absurd (omega arith)
number_same (b ∷ s) (c ∷ t) e f l n =
    let k : length s ≡ length t = omega arith in
    let m = 256 ^ length s in
    let low = number_below s (bytes_rest b s e) in
    let low' : number_of t < m = subst (λ (j : ℕ). number_of t < 256 ^ j) (sym k) (number_below t (bytes_rest c t f)) in
    let both : b * m + number_of s ≡ c * m + number_of t = n ∙ ap (λ (j : ℕ). c * 256 ^ j + number_of t) (sym k) in
    ap₂ ◌∷◌
    (sym (digits_div b low) ∙ (ap (λ (x : ℕ). x / m) both ∙ digits_div c low'))
    (number_same s t (bytes_rest b s e) (bytes_rest c t f) k (sym (digits_mod b low) ∙ (ap (λ (x : ℕ). x % m) both ∙ digits_mod c low')))

-- bytes are what their number writes
pub bytes_back : (w : ℕ) (s : List ℕ) → are_bytes s ≡ true → length s ≡ w → bytes_of w (number_of s) ≡ s
bytes_back w s e l =
    number_same (bytes_of w (number_of s)) s (bytes_are w (number_of s)) e (bytes_length w (number_of s) ∙ sym l)
    (number_back w (number_of s) (subst (λ (j : ℕ). number_of s < 256 ^ j) l (number_below s e)))

-- a number by its two halves
pub number_append : (s t : List ℕ) → number_of (s ++ t) ≡ number_of s * 256 ^ length t + number_of t
unfolding number_of
number_append [] t = sym (ap (λ (x : ℕ). x + number_of t) (zero-mul (256 ^ length t)) ∙ zero-add (number_of t))
number_append (b ∷ s) t =
    ap₂ (λ (k m : ℕ). b * k + m) (ap (λ (k : ℕ). 256 ^ k) (length-append s t) ∙ pow-add 256 (length s) (length t)) (number_append s t)
    ∙ (sym (add_assoc (b * (256 ^ length s * 256 ^ length t)) (number_of s * 256 ^ length t) (number_of t))
    ∙ ap (λ (x : ℕ). x + number_of t)
    (ap (λ (x : ℕ). x + number_of s * 256 ^ length t) (sym (mul_assoc b (256 ^ length s) (256 ^ length t)))
    ∙ sym (add-mul (b * 256 ^ length s) (number_of s) (256 ^ length t))))
