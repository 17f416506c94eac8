-- Rows of bits: what was joined to a row stays in it, and a bit is shared with two joined rows where it is shared with one of them.
-- Assumes nothing.
use mathlib.Core.Path.{◌≡◌, refl, sym, ap, ap₂, ◌∙◌}
use mathlib.Core.Bool.{Bool, true, false, ◌&&◌, ◌||◌, or-true, or-false}
use mathlib.Core.List.{List, [], ◌∷◌}
use Prim.Native.Nat.{ℕ, zero, suc, ◌/◌, ◌%◌, ◌^◌}
use native.Mathlib.Omega.{arith}
use lib.Bits.{bit_and, bit_or, or_self, or_zero_l, or_zero_r, or_shr, or_mod}
use lib.Dec.{eqb}
use lib.ListN.{length, get_or}
use borrow.Author.Tests.{eq-eqb, ne_eqb, eqb-true, eqb-false}
use Rattle.slices.specs.Choice.{pick}
use Rattle.decide_tvr.specs.Bits.{joined, meet}
use Rattle.decide_tvr.proofs.Words.{or_assoc, and_over_or, or_zero}

pub joined_assoc : (a b c : List ℕ) → joined (joined a b) c ≡ joined a (joined b c)
unfolding joined
joined_assoc [] b c = refl
joined_assoc (x ∷ a) [] c = refl
joined_assoc (x ∷ a) (y ∷ b) [] = refl
joined_assoc (x ∷ a) (y ∷ b) (z ∷ c) = ap₂ ◌∷◌ (or_assoc x y z) (joined_assoc a b c)

pub joined_self : (a : List ℕ) → joined a a ≡ a
unfolding joined
joined_self [] = refl
joined_self (x ∷ a) = ap₂ ◌∷◌ (or_self x) (joined_self a)

-- what is joined to a row keeps every bit of it
pub kept : (a b : List ℕ) → joined a (joined a b) ≡ joined a b
kept a b = sym (joined_assoc a a b) ∙ ap (λ (l : List ℕ). joined l b) (joined_self a)

-- and what keeps every bit of what keeps every bit does so too
pub kept_on : (a b c : List ℕ) → joined a b ≡ b → joined b c ≡ c → joined a c ≡ c
kept_on a b c p q = ap (joined a) (sym q) ∙ (sym (joined_assoc a b c) ∙ (ap (λ (l : List ℕ). joined l c) p ∙ q))

pub joined_length : (a b : List ℕ) → length a ≡ length b → length (joined a b) ≡ length a
unfolding joined
joined_length [] [] e = refl
joined_length [] (y ∷ b) e = sym e
joined_length (x ∷ a) [] e = refl
joined_length (x ∷ a) (y ∷ b) e = ap suc (joined_length a b (omega arith))

-- each byte of two joined rows, and each bit of one
pub joined_at : (a b : List ℕ) (i : ℕ) → get_or (joined a b) i 0 ≡ bit_or (get_or a i 0) (get_or b i 0)
unfolding joined
joined_at [] b i = sym (or_zero_l (get_or b i 0))
joined_at (x ∷ a) [] i = sym (or_zero_r (get_or (x ∷ a) i 0))
joined_at (x ∷ a) (y ∷ b) zero = refl
joined_at (x ∷ a) (y ∷ b) (suc i) = joined_at a b i

pub bit_joined : (k : ℕ) (a b : List ℕ) (i : ℕ)
    → get_or (joined a b) i 0 / 2 ^ k % 2 ≡ bit_or (get_or a i 0 / 2 ^ k % 2) (get_or b i 0 / 2 ^ k % 2)
bit_joined k a b i =
    let x = get_or a i 0 in
    let y = get_or b i 0 in
    ap (λ (n : ℕ). n / 2 ^ k % 2) (joined_at a b i) ∙ (ap (λ (n : ℕ). n % 2) (or_shr x y k) ∙ or_mod (x / 2 ^ k) (y / 2 ^ k) 1)

-- where nothing is joined, a byte stays as it is
pub stays_at : (a b : List ℕ) (i : ℕ) → get_or b i 0 ≡ 0 → get_or (joined a b) i 0 ≡ get_or a i 0
stays_at a b i e = joined_at a b i ∙ (ap (bit_or (get_or a i 0)) e ∙ or_zero_r (get_or a i 0))

pub bit_stays : (k : ℕ) (a b : List ℕ) (i : ℕ) → get_or b i 0 / 2 ^ k % 2 ≡ 0 → get_or (joined a b) i 0 / 2 ^ k % 2
    ≡ get_or a i 0 / 2 ^ k % 2
bit_stays k a b i e = let n = get_or a i 0 / 2 ^ k % 2 in bit_joined k a b i ∙ (ap (bit_or n) e ∙ or_zero_r n)

-- two numbers share no bit with a third where their `or` shares none
apart : (x y z : ℕ) → eqb (bit_and (bit_or x y) z) 0 ≡ (eqb (bit_and x z) 0 && eqb (bit_and y z) 0)
apart x y z =
    ap (λ (n : ℕ). eqb n 0) (and_over_or x y z) ∙ both (bit_and x z) (bit_and y z) (eqb (bit_and x z) 0) (eqb (bit_and y z) 0) refl refl
  where
    both : (u v : ℕ) (p q : Bool) → eqb u 0 ≡ p → eqb v 0 ≡ q → eqb (bit_or u v) 0 ≡ (p && q)
    both u v true true e f = eq-eqb _ 0 (ap₂ bit_or (eqb-true u 0 e) (eqb-true v 0 f))
    both u v true false e f = ne_eqb _ 0 (λ o. eqb-false v 0 f (or_zero u v o).1)
    both u v false q e f = ne_eqb _ 0 (λ o. eqb-false u 0 e (or_zero u v o).0)

-- a bit is shared with two joined rows where it is shared with one of them
pub meet_joined : (a b t : List ℕ) → meet (joined a b) t ≡ (meet a t || meet b t)
unfolding meet joined pick
meet_joined [] b t = refl
meet_joined (x ∷ a) [] t = sym (or-false (meet (x ∷ a) t))
meet_joined (x ∷ a) (y ∷ b) [] = refl
meet_joined (x ∷ a) (y ∷ b) (z ∷ t) =
    ap₂ (λ (p m : Bool). pick p m true) (apart x y z) (meet_joined a b t)
    ∙ either (eqb (bit_and x z) 0) (eqb (bit_and y z) 0) (meet a t) (meet b t)
  where
    either : (p q m n : Bool) → pick (p && q) (m || n) true ≡ (pick p m true || pick q n true)
    either true true m n = refl
    either true false m n = sym (or-true m)
    either false q m n = refl

pub meet_first : (a b t : List ℕ) → meet a t ≡ true → meet (joined a b) t ≡ true
meet_first a b t e = meet_joined a b t ∙ ap (λ (m : Bool). m || meet b t) e

pub meet_second : (a b t : List ℕ) → meet a t ≡ false → meet (joined a b) t ≡ meet b t
meet_second a b t e = meet_joined a b t ∙ ap (λ (m : Bool). m || meet b t) e
