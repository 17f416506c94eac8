-- A choice whose test is known is the value chosen; what holds of both values holds of the choice. Bytes are there where their
-- length is not 0.
-- Assumes nothing.
use mathlib.Core.Path.{◌≡◌, refl, sym, ap}
use mathlib.Core.Bool.{Bool, true, false, ◌&&◌, not, false≢true}
use mathlib.Core.List.{List, [], ◌∷◌}
use mathlib.Core.Option.{none, some, get_or}
use Prim.Native.Nat.{ℕ, ◌<◌}
use native.Mathlib.Omega.{arith}
use borrow.Author.Tests.{ne_eqb}
use lib.Dec.{eqb}
use lib.ListN.{length}
use Rattle.slices.specs.Choice.{pick, unless_empty}
use Rattle.slices.specs.Tests.{is_some}

pub pick_yes : {A : Type 0} (t : Bool) (a b : A) → t ≡ true → pick t a b ≡ a
unfolding pick
pick_yes t a b e = rw e

pub pick_no : {A : Type 0} (t : Bool) (a b : A) → t ≡ false → pick t a b ≡ b
unfolding pick
pick_no t a b e = rw e

-- by cases of the test, each with its equation in hand
pub picked : {A : Type 0} (P : A → Type 0) (t : Bool) (a b : A) → (t ≡ true → P a) → (t ≡ false → P b) → P (pick t a b)
unfolding pick
picked P true a b yes' no' = yes' refl
picked P false a b yes' no' = no' refl

pub pick_same : {A : Type 0} (t : Bool) (a : A) → pick t a a ≡ a
unfolding pick
pick_same true a = refl
pick_same false a = refl

pub pick_ap : {A B : Type 0} (f : A → B) (t : Bool) (a b : A) → f (pick t a b) ≡ pick t (f a) (f b)
unfolding pick
pick_ap f true a b = refl
pick_ap f false a b = refl

-- the branches may be changed where their test holds
pub pick_cong : {A : Type 0} (t : Bool) (a a' b b' : A) → (t ≡ true → a ≡ a') → (t ≡ false → b ≡ b') → pick t a b ≡ pick t a' b'
unfolding pick
pick_cong true a a' b b' f g = f refl
pick_cong false a a' b b' f g = g refl

-- a conjunction holds where both its tests do, and its second test matters only where the first holds
pub and_left : (s t : Bool) → (s && t) ≡ true → s ≡ true
and_left true t e = refl
and_left false t e = e

pub and_right : (s t : Bool) → (s && t) ≡ true → t ≡ true
and_right true t e = e
and_right false t e = absurd (false≢true e)

pub and_both : (s t : Bool) → s ≡ true → t ≡ true → (s && t) ≡ true
and_both s t e f = rw (e, f)

pub and_cong : (s t t' : Bool) → (s ≡ true → t ≡ t') → (s && t) ≡ (s && t')
and_cong true t t' f = f refl
and_cong false t t' f = refl

-- by cases of a test
pub either : {P : Type 0} (t : Bool) → (t ≡ true → P) → (t ≡ false → P) → P
either true f g = f refl
either false f g = g refl

-- bytes that are handed on only where there are any: where none are asked for, the same bytes
pub there_or_empty : (v : List ℕ) → get_or (unless_empty v) [] ≡ v
unfolding unless_empty
there_or_empty [] = refl
there_or_empty (b ∷ bs) = refl

-- by their length
pub there : (v : List ℕ) → 0 < length v → unless_empty v ≡ some v
unfolding unless_empty
there [] h = absurd (omega arith)
there (b ∷ bs) h = refl

pub not_there : (v : List ℕ) → length v ≡ 0 → unless_empty v ≡ none
unfolding unless_empty
not_there [] e = refl
not_there (b ∷ bs) e = absurd (omega arith)

pub is_there_lem : (v : List ℕ) → is_some (unless_empty v) ≡ not (eqb (length v) 0)
unfolding unless_empty is_some
is_there_lem [] = refl
is_there_lem (b ∷ bs) = sym (ap not (ne_eqb (length (b ∷ bs)) 0 (λ e. absurd (omega arith))))
