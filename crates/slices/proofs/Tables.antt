-- Some of several tests: the first that holds settles it, one that fails leaves it to the others. A table: a number that is
-- none of its keys has nothing beside it.
-- Assumes nothing.
use mathlib.Core.Path.{◌≡◌, refl, sym, ap, ◌∙◌}
use mathlib.Core.Bool.{Bool, true, false, ◌||◌, ◌&&◌}
use mathlib.Core.List.{List, [], ◌∷◌, map}
use Prim.Native.Nat.{ℕ, ◌≤◌, ◌<◌, ◌+◌}
use native.Mathlib.Numerals.{add-one}
use borrow.Author.Tests.{ne_eqb}
use lib.ListN.{length, drop, get_or, drop_of_length-le}
use lib.Seq.{drop-cons}
use Rattle.slices.proofs.Choice.{pick_yes, pick_no}
use Rattle.slices.specs.Tables.{any_of, beside}

-- in these r is what the code found for the test t
module _ {r t : Bool} (e : r ≡ t) where
  pub or_yes : (u : Bool) → r ≡ true → (t || u) ≡ r
  or_yes u h = ap (λ (x : Bool). x || u) (sym e ∙ h) ∙ sym h

  pub or_no : (u : Bool) → r ≡ false → (t || u) ≡ u
  or_no u h = ap (λ (x : Bool). x || u) (sym e ∙ h)

  pub and_yes : (u : Bool) → r ≡ true → (t && u) ≡ u
  and_yes u h = ap (λ (x : Bool). x && u) (sym e ∙ h)

  pub and_no : (u : Bool) → r ≡ false → (t && u) ≡ r
  and_no u h = ap (λ (x : Bool). x && u) (sym e ∙ h) ∙ sym h

-- a test of every element of a list, from a place on
module _ (p : ℕ → Bool) (s : List ℕ) (i : ℕ) where
  pub any_one_on : i < length s → p (get_or s i 0) ≡ false → any_of (map p (drop i s)) ≡ any_of (map p (drop (i + 1) s))
  unfolding any_of
  any_one_on h e =
      ap (λ (l : List ℕ). any_of (map p l)) (drop-cons s i 0 h)
      ∙ (pick_no _ _ _ e ∙ ap (λ (n : ℕ). any_of (map p (drop n s))) (sym (add-one i)))

  pub any_found : i < length s → p (get_or s i 0) ≡ true → any_of (map p (drop i s)) ≡ true
  unfolding any_of
  any_found h e = ap (λ (l : List ℕ). any_of (map p l)) (drop-cons s i 0 h) ∙ pick_yes _ _ _ e

  pub any_through : length s ≤ i → any_of (map p (drop i s)) ≡ false
  unfolding any_of
  any_through h = ap (λ (l : List ℕ). any_of (map p l)) (drop_of_length-le s h)

-- a number is none of a table's keys, said in the form in which a `match` on it says so
abbrev pub NoneOf : {A : Type 0} → ℕ → List (ℕ × A) → Type 0 → Type 0
NoneOf n [] so_far = so_far
NoneOf n (row ∷ rows) so_far = NoneOf n rows (so_far × (n ≡ row.0 → ⊥))

earlier : {A : Type 0} (n : ℕ) (rows : List (ℕ × A)) (so_far : Type 0) → NoneOf n rows so_far → so_far
earlier n [] so_far h = h
earlier n (row ∷ rows) so_far h = (earlier n rows (so_far × (n ≡ row.0 → ⊥)) h).0

beside_after : {A : Type 0} (other : A) (n : ℕ) (rows : List (ℕ × A)) (so_far : Type 0) → NoneOf n rows so_far → beside other n rows ≡ other
unfolding beside
beside_after other n [] so_far h = refl
beside_after other n (row ∷ rows) so_far h =
    let more = so_far × (n ≡ row.0 → ⊥) in
    pick_no _ _ _ (ne_eqb n row.0 (earlier n rows more h).1) ∙ beside_after other n rows more h

pub beside_none : {A : Type 0} (other : A) (n : ℕ) (rows : List (ℕ × A)) → NoneOf n rows (Unit {0}) → beside other n rows ≡ other
beside_none other n rows h = beside_after other n rows (Unit {0}) h
