-- A test of every element of a list from a place on, whatever the elements are: one that passes leaves it to the others, one that fails
-- settles it, and past the end nothing is left to fail. The same for a test that one element is to pass.
-- Assumes nothing.
use mathlib.Core.Path.{◌≡◌, sym, ap, ◌∙◌}
use mathlib.Core.Bool.{Bool, true, false}
use mathlib.Core.List.{List, map}
use Prim.Native.Nat.{ℕ, ◌+◌, ◌<◌, ◌≤◌}
use native.Mathlib.Numerals.{add-one}
use lib.ListN.{length, get_or, drop, drop_of_length-le}
use lib.Seq.{drop-cons}
use Rattle.slices.specs.Tests.{every}
use Rattle.slices.specs.Tables.{any_of}
use Rattle.slices.proofs.Choice.{pick_yes, pick_no}

module _ {A : Type 0} (p : A → Bool) (l : List A) (d : A) (i : ℕ) where
  pub all_on : i < length l → p (get_or l i d) ≡ true → every (map p (drop i l)) ≡ every (map p (drop (i + 1) l))
  unfolding every
  all_on h e =
      ap (λ x. every (map p x)) (drop-cons l i d h)
      ∙ (pick_yes _ _ _ e ∙ ap (λ (n : ℕ). every (map p (drop n l))) (sym (add-one i)))

  pub all_not : i < length l → p (get_or l i d) ≡ false → every (map p (drop i l)) ≡ false
  unfolding every
  all_not h e = ap (λ x. every (map p x)) (drop-cons l i d h) ∙ pick_no _ _ _ e

  pub all_past : length l ≤ i → every (map p (drop i l)) ≡ true
  unfolding every
  all_past h = ap (λ x. every (map p x)) (drop_of_length-le l h)

  pub any_on : i < length l → p (get_or l i d) ≡ false → any_of (map p (drop i l)) ≡ any_of (map p (drop (i + 1) l))
  unfolding any_of
  any_on h e =
      ap (λ x. any_of (map p x)) (drop-cons l i d h)
      ∙ (pick_no _ _ _ e ∙ ap (λ (n : ℕ). any_of (map p (drop n l))) (sym (add-one i)))

  pub any_yes : i < length l → p (get_or l i d) ≡ true → any_of (map p (drop i l)) ≡ true
  unfolding any_of
  any_yes h e = ap (λ x. any_of (map p x)) (drop-cons l i d h) ∙ pick_yes _ _ _ e

  pub any_past : length l ≤ i → any_of (map p (drop i l)) ≡ false
  unfolding any_of
  any_past h = ap (λ x. any_of (map p x)) (drop_of_length-le l h)
