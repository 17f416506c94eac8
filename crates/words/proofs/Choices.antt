-- A choice is one byte; and choices worked out: two are shown, or nobody.
-- Assumes nothing.
use mathlib.Core.Path.{◌≡◌, refl, sym, ap, ◌∙◌}
use mathlib.Core.Bool.{Bool, true, false, ◌||◌}
use mathlib.Core.List.{List, [], ◌∷◌}
use Prim.Native.Nat.{ℕ}
use lib.Dec.{eqb, ltb}
use lib.ListN.{length, get_or}
use borrow.Author.Tests.{eqb-true, eq-eqb, ne_eqb}
use Rattle.slices.specs.Choice.{pick}
use Rattle.slices.specs.Tests.{every}
use Rattle.slices.proofs.Tests.{held, last, first_held}
use Rattle.words.specs.Choice.{is_choice}

or_false : (b : Bool) → (b || false) ≡ b
or_false true = refl
or_false false = refl

module _ (shown : ℕ) (p : List ℕ) where
  abbrev place : ℕ
  place = get_or p 0 0

  abbrev among : Bool
  among = ltb place shown || eqb place 0xFF

  module _ (one : length p ≡ 1) where
    by_place : is_choice shown p ≡ among
    unfolding is_choice
    by_place = held refl (among ∷ []) (eq-eqb (length p) 1 one) ∙ last refl

    pub one_chosen : (place ≡ 0xFF → ⊥) → ltb place shown ≡ is_choice shown p
    one_chosen n = sym (by_place ∙ (ap (λ (b : Bool). ltb place shown || b) (ne_eqb place 0xFF n) ∙ or_false (ltb place shown)))

pub choice_length : (shown : ℕ) (p : List ℕ) → is_choice shown p ≡ true → length p ≡ 1
unfolding is_choice
choice_length shown p e = eqb-true (length p) 1 (first_held (eqb (length p) 1) _ e).0

-- a place among those shown, the one behind the last, none of them; a byte too few, and one too many
pub choices : (is_choice 2 (1 ∷ []) ≡ true) × (is_choice 2 (2 ∷ []) ≡ false) × (is_choice 2 (0xFF ∷ []) ≡ true)
    × (is_choice 2 [] ≡ false) × (is_choice 2 (0 ∷ 0 ∷ []) ≡ false)
unfolding is_choice every pick
choices = (refl, refl, refl, refl, refl)

-- nobody shown: none of them alone
pub nobody_shown : (is_choice 0 (0 ∷ []) ≡ false) × (is_choice 0 (0xFF ∷ []) ≡ true)
unfolding is_choice every pick
nobody_shown = (refl, refl)
