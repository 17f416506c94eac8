-- Tests all of which hold, and a test of every element of a list taken from a place on: one more element passed changes
-- nothing, one that fails settles it, and past the end nothing is left to fail. In each law r is what the code found for
-- the test t.
-- Assumes nothing.
use mathlib.Core.Path.{◌≡◌, refl, sym, ap, ◌∙◌}
use mathlib.Core.Bool.{Bool, true, false, not, false≢true}
use mathlib.Core.List.{List, [], ◌∷◌, map}
use Prim.Native.Nat.{ℕ, zero, suc, ◌≤◌, ◌<◌, ◌+◌}
use native.Mathlib.Numerals.{add-one}
use borrow.Author.Tests.{not-true, not-false}
use lib.ListN.{length, drop, get_or, drop_of_length-le}
use lib.Seq.{drop-cons}
use native.Mathlib.Omega.{arith}
use Rattle.std.specs.Bool.{MatchBool}
use Rattle.std.specs.List.{AllWithin, HoldsAt}
use Rattle.slices.specs.Choice.{pick}
use Rattle.slices.proofs.Choice.{pick_yes, pick_no, either}
use Rattle.slices.specs.Tests.{every}

module _ {r t : Bool} (e : r ≡ t) where
  -- the first test holds: the others decide
  pub held : (ts : List Bool) → r ≡ true → every (t ∷ ts) ≡ every ts
  unfolding every
  held ts h = pick_yes _ _ _ (sym e ∙ h)

  -- the first test fails
  pub failed : (ts : List Bool) → r ≡ false → every (t ∷ ts) ≡ r
  unfolding every
  failed ts h = pick_no _ _ _ (sym e ∙ h) ∙ sym h

  -- the same where the code asks whether the test fails
  pub passed : (ts : List Bool) → not r ≡ false → every (t ∷ ts) ≡ every ts
  passed ts h = held ts (not-false r h)

  pub refused : (ts : List Bool) → not r ≡ true → every (t ∷ ts) ≡ false
  refused ts h = failed ts (not-true r h) ∙ not-true r h

  -- the only test decides
  pub last : every (t ∷ []) ≡ r
  unfolding every pick
  last = ends t ∙ sym e
    where
      ends : (b : Bool) → every (b ∷ []) ≡ b
      ends true = refl
      ends false = refl

-- where all hold, the first holds, and so do the others
pub first_held : (t : Bool) (ts : List Bool) → every (t ∷ ts) ≡ true → (t ≡ true) × (every ts ≡ true)
unfolding every pick
first_held true ts e = (refl, e)
first_held false ts e = (e, absurd (false≢true e))

-- and so does each by its place
pub each_held : (ts : List Bool) → every ts ≡ true → (k : ℕ) → get_or ts k true ≡ true
each_held [] e k = refl
each_held (t ∷ ts) e zero = (first_held t ts e).0
each_held (t ∷ ts) e (suc k) = each_held ts (first_held t ts e).1 k

module _ (p : ℕ → Bool) (s : List ℕ) (i : ℕ) where
  pub all_one_on : i < length s → p (get_or s i 0) ≡ true → every (map p (drop i s)) ≡ every (map p (drop (i + 1) s))
  all_one_on h e =
      ap (λ (l : List ℕ). every (map p l)) (drop-cons s i 0 h)
      ∙ (held refl _ e ∙ ap (λ (n : ℕ). every (map p (drop n s))) (sym (add-one i)))

  pub all_but_one : i < length s → p (get_or s i 0) ≡ false → every (map p (drop i s)) ≡ false
  all_but_one h e = ap (λ (l : List ℕ). every (map p l)) (drop-cons s i 0 h) ∙ (failed refl _ e ∙ e)

  pub all_through : length s ≤ i → every (map p (drop i s)) ≡ true
  unfolding every
  all_through h = ap (λ (l : List ℕ). every (map p l)) (drop_of_length-le s h)

-- what a chain's `all` has told of a list is the test of each of its elements
module _ (p : ℕ → Bool) where
  all_yes : (s : List ℕ) → AllWithin (λ x. p x ≡ true) s 0 (length s) → every (map p s) ≡ true
  unfolding every
  all_yes [] h = refl
  all_yes (x ∷ s) h = held refl _ (h 0 0 (omega arith) (omega arith)) ∙ all_yes s (λ k d low k<. h (suc k) d (omega arith) (omega arith))

  one_no : (s : List ℕ) (k : ℕ) → k < length s → HoldsAt (λ x. p x ≡ false) s k → every (map p s) ≡ false
  one_no [] k k< h = absurd (omega arith)
  one_no (x ∷ s) zero k< h = failed refl _ (h 0) ∙ h 0
  one_no (x ∷ s) (suc k) k< h = either (p x) (λ y. held refl _ y ∙ one_no s k (omega arith) h) (λ n. failed refl _ n ∙ n)

  pub every_from_all : (s : List ℕ) (r : Bool)
      → MatchBool r (AllWithin (λ x. p x ≡ true) s 0 (length s)) ((k : ℕ) × (k < length s) × HoldsAt (λ x. p x ≡ false) s k)
      → r ≡ every (map p s)
  every_from_all s true h = sym (all_yes s h)
  every_from_all s false h = sym (one_no s h.0 h.1 h.2)
