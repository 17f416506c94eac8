-- Two lists compared: alike exactly where they are equal.
-- Assumes nothing.
use mathlib.Core.Path.{◌≡◌, refl, ap, ap₂, ◌∙◌}
use mathlib.Core.Bool.{Bool, true, false, ◌&&◌, false≢true}
use mathlib.Core.List.{List, [], ◌∷◌}
use Prim.Native.Nat.{ℕ}
use lib.Dec.{eqb}
use borrow.Author.Tests.{eq-eqb, eqb-true}
use Rattle.std.specs.Cmp.Lexicographic.{pointwise}
use Rattle.slices.specs.Choice.{pick}
use Rattle.slices.specs.Tests.{alike}
use Rattle.slices.proofs.Choice.{pick_yes, picked}

-- `==` of two slices answers the same
and_is_pick : (t u : Bool) → (t && u) ≡ pick t u false
unfolding pick
and_is_pick true u = refl
and_is_pick false u = refl

pub alike_by_items : (a b : List ℕ) → pointwise eqb a b ≡ alike a b
unfolding alike
alike_by_items [] [] = refl
alike_by_items [] (y ∷ b) = refl
alike_by_items (x ∷ a) [] = refl
alike_by_items (x ∷ a) (y ∷ b) = and_is_pick (eqb x y) _ ∙ ap (λ t. pick (eqb x y) t false) (alike_by_items a b)

-- lists that are alike are equal, and a list is like itself
pub alike_same : (a b : List ℕ) → alike a b ≡ true → a ≡ b
unfolding alike
alike_same [] [] e = refl
alike_same [] (y ∷ b) e = absurd (false≢true e)
alike_same (x ∷ a) [] e = absurd (false≢true e)
alike_same (x ∷ a) (y ∷ b) e =
    picked
    (λ t. t ≡ true → x ∷ a ≡ y ∷ b)
    (eqb x y)
    (alike a b)
    false
    (λ p f. ap₂ ◌∷◌ (eqb-true x y p) (alike_same a b f))
    (λ p f. absurd (false≢true f))
    e

pub same_alike : (a : List ℕ) → alike a a ≡ true
unfolding alike
same_alike [] = refl
same_alike (x ∷ a) = pick_yes _ _ _ (eq-eqb x x refl) ∙ same_alike a
