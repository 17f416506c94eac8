-- Of the two forms an answer has one: where it is not the object with a tag, nothing stands there under any name.
-- Assumes nothing.
use mathlib.Core.Path.{◌≡◌, refl, sym, ap, ◌∙◌}
use mathlib.Core.Bool.{true, false}
use mathlib.Core.List.{List, []}
use mathlib.Core.Option.{Option, none, some, get_or}
use Prim.Native.Nat.{ℕ}
use borrow.Author.Tests.{eqb-true, ne_eqb}
use Rattle.slices.proofs.Choice.{pick_no}
use Rattle.tlv_list.specs.Objects.{Object, objects}
use Rattle.tlv_list.specs.Lookup.{absent, lookup}
use Rattle.tlv_list.proofs.Objects.{objects_empty}
use Rattle.answer_common.specs.Answer.{outer, tagged, value_under, is_one, inside}
use Rattle.answer_common.specs.Named.{members_in, among, direct}

nothing_under : (tag : ℕ) (o : Option Object) → tagged tag o ≡ false → value_under tag o ≡ []
unfolding tagged value_under
nothing_under tag none e = refl
nothing_under tag (some m) e = pick_no _ _ _ e

pub not_inside : (tag : ℕ) (a : List ℕ) → is_one tag a ≡ false → inside tag a ≡ []
unfolding is_one inside
not_inside tag a e = nothing_under tag (outer a) e

pub not_direct : (tag : ℕ) (a : List ℕ) → is_one tag a ≡ false → (name : ℕ) → direct tag a name ≡ absent
unfolding direct among members_in lookup
not_direct tag a e name =
    ap (λ (s : List ℕ). lookup name (get_or (objects s) [])) (not_inside tag a e)
    ∙ ap (λ (o : Option (List Object)). lookup name (get_or o [])) objects_empty

other_tagged : (tag other : ℕ) (o : Option Object) → (tag ≡ other → ⊥) → tagged tag o ≡ true → tagged other o ≡ false
unfolding tagged
other_tagged tag other none k e = refl
other_tagged tag other (some m) k e = ne_eqb _ _ (λ f. k (sym (eqb-true _ _ e) ∙ f))

pub one_form : (tag other : ℕ) (a : List ℕ) → (tag ≡ other → ⊥) → is_one tag a ≡ true → is_one other a ≡ false
unfolding is_one
one_form tag other a k e = other_tagged tag other (outer a) k e
