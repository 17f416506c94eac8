-- Some of several tests by name: two rows of tests joined, and two that agree but for one name.
-- Assumes nothing.
use mathlib.Core.Path.{◌≡◌, refl, sym, ap, ◌∙◌}
use mathlib.Core.Bool.{Bool, true, false, ◌||◌, false≢true}
use mathlib.Core.List.{List, [], ◌∷◌, map}
use Prim.Native.Nat.{ℕ}
use lib.Dec.{eqb}
use borrow.Author.Tests.{eqb-true, eqb-false}
use Rattle.slices.specs.Choice.{pick}
use Rattle.slices.specs.Tables.{any_of}
use Rattle.slices.proofs.Choice.{pick_yes, pick_no, either}
use Rattle.answer_common.specs.Named.{listed}
use Rattle.answer_common.proofs.Alike.{any_alike}

-- one of several tests
or_true : (x : Bool) → (x || true) ≡ true
or_true true = refl
or_true false = refl

either_step : (x y a b c : Bool) → (a || b) ≡ c → (pick x true a || pick y true b) ≡ pick (x || y) true c
unfolding pick
either_step true y a b c e = refl
either_step false true a b c e = or_true a
either_step false false a b c e = e

pub either_any : (f g : ℕ → Bool) (names : List ℕ)
    → (any_of (map f names) || any_of (map g names)) ≡ any_of (map (λ name. f name || g name) names)
unfolding any_of
either_any f g [] = refl
either_any f g (n ∷ ns) = either_step (f n) (g n) _ _ _ (either_any f g ns)

any_held : (p : ℕ → Bool) (names : List ℕ) (tag : ℕ) → listed tag names ≡ true → p tag ≡ true → any_of (map p names) ≡ true
unfolding any_of listed
any_held p [] tag l h = absurd (false≢true l)
any_held p (n ∷ ns) tag l h =
    either (p n)
    (λ y. pick_yes _ _ _ y)
    (λ k.
    either (eqb tag n)
    (λ y. absurd (false≢true (sym k ∙ (ap p (sym (eqb-true tag n y)) ∙ h))))
    (λ z. pick_no _ _ _ k ∙ any_held p ns tag (sym (pick_no _ _ _ z) ∙ l) h))

-- tests that agree but for one name, where the first also holds if b does
pub one_apart : (f g : ℕ → Bool) (names : List ℕ) (tag : ℕ) (b : Bool) → listed tag names ≡ true
    → ((name : ℕ) → (name ≡ tag → ⊥) → f name ≡ g name) → f tag ≡ (b || g tag) → any_of (map f names) ≡ (b || any_of (map g names))
one_apart f g names tag true l same here = any_held f names tag l here
one_apart f g names tag false l same here =
    any_alike f g names
    (λ name k. either (eqb name tag)
    (λ y. ap f (eqb-true name tag y) ∙ (here ∙ ap g (sym (eqb-true name tag y))))
    (λ n. same name (eqb-false name tag n)))
