-- Some of several tests, one after the other: in these r is what the code found for the test t.
-- Assumes nothing.
use mathlib.Core.Path.{◌≡◌, refl, sym, ap, ◌∙◌}
use mathlib.Core.Bool.{Bool, true, false, ◌||◌}
use mathlib.Core.List.{List, [], ◌∷◌, map}
use Prim.Native.Nat.{ℕ}
use lib.Dec.{eqb}
use borrow.Author.Tests.{eq-eqb, ne_eqb, eqb-true, eqb-false}
use Rattle.std.specs.List.{list_any}
use Rattle.slices.specs.Tables.{any_of}
use Rattle.slices.proofs.Choice.{pick_yes, pick_no, either}

-- some of the tests of a list's elements, as the library has it
pub any_list : {A : Type 0} (p q : A → Bool) → ((x : A) → q x ≡ p x) → (xs : List A) → list_any q xs ≡ any_of (map p xs)
unfolding any_of
any_list p q e [] = refl
any_list p q e (x ∷ xs) =
    either (p x)
    (λ y. ap (λ (t : Bool). t || list_any q xs) (e x ∙ y) ∙ sym (pick_yes _ _ _ y))
    (λ n. ap (λ (t : Bool). t || list_any q xs) (e x ∙ n) ∙ (any_list p q e xs ∙ sym (pick_no _ _ _ n)))

pub same_either_way : (a b : ℕ) → eqb a b ≡ eqb b a
same_either_way a b =
    either (eqb a b)
    (λ y. y ∙ sym (eq-eqb b a (sym (eqb-true a b y))))
    (λ n. n ∙ sym (ne_eqb b a (λ e. eqb-false a b n (sym e))))

module _ {r t : Bool} (e : r ≡ t) where
  pub any_yes : (ts : List Bool) → r ≡ true → any_of (t ∷ ts) ≡ true
  unfolding any_of
  any_yes ts h = pick_yes _ _ _ (sym e ∙ h)

  pub any_no : (ts : List Bool) → r ≡ false → any_of (t ∷ ts) ≡ any_of ts
  unfolding any_of
  any_no ts h = pick_no _ _ _ (sym e ∙ h)

  pub any_last : any_of (t ∷ []) ≡ r
  unfolding any_of
  any_last = either t (λ y. pick_yes _ _ _ y ∙ sym (e ∙ y)) (λ n. pick_no _ _ _ n ∙ sym (e ∙ n))
