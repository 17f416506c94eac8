-- Tests over names agree where they agree for each name: so look-ups that find the same, or only as often, are judged alike.
-- Assumes nothing.
use mathlib.Core.Path.{◌≡◌, refl, ap, ap₂, ◌∙◌}
use mathlib.Core.Bool.{Bool, true}
use mathlib.Core.List.{List, [], ◌∷◌, map}
use Prim.Native.Nat.{ℕ}
use lib.Dec.{eqb}
use borrow.Author.Tests.{eq-eqb}
use Rattle.slices.specs.Choice.{pick}
use Rattle.slices.proofs.Choice.{pick_yes, pick_same}
use Rattle.tlv_list.specs.Lookup.{Lookup}
use Rattle.slices.specs.Tables.{any_of}
use Rattle.answer_common.specs.Named.{listed, times, wrong_value, any_times, any_wrong}

pub listed_first : (n : ℕ) (ns : List ℕ) → listed n (n ∷ ns) ≡ true
unfolding listed any_of
listed_first n ns = pick_yes _ _ _ (eq-eqb n n refl)

pub listed_also : (name n : ℕ) (ns : List ℕ) → listed name ns ≡ true → listed name (n ∷ ns) ≡ true
unfolding listed any_of
listed_also name n ns e = ap (pick (eqb name n) true) e ∙ pick_same (eqb name n) true

-- tests that agree for each name
pub any_alike : (p q : ℕ → Bool) (names : List ℕ) → ((name : ℕ) → listed name names ≡ true → p name ≡ q name)
    → any_of (map p names) ≡ any_of (map q names)
unfolding any_of
any_alike p q [] f = refl
any_alike p q (n ∷ ns) f =
    ap₂ (λ (t r : Bool). pick t true r) (f n (listed_first n ns)) (any_alike p q ns (λ name l. f name (listed_also name n ns l)))

module _ (names : List ℕ) (x y : ℕ → Lookup) where
  pub times_alike : (n : ℕ) → ((name : ℕ) → listed name names ≡ true → times (x name) ≡ times (y name))
      → any_times n names x ≡ any_times n names y
  unfolding any_times
  times_alike n f = any_alike _ _ names (λ name l. ap (λ (k : ℕ). eqb k n) (f name l))

  pub wrong_alike : ((name : ℕ) → listed name names ≡ true → x name ≡ y name) → any_wrong names x ≡ any_wrong names y
  unfolding any_wrong
  wrong_alike f = any_alike _ _ names (λ name l. ap (wrong_value name) (f name l))
