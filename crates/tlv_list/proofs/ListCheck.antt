-- The list check, one object at a time: it answers of the rest what it answers of the whole, unless the reader finds no
-- object where one is due, or a constructed object's value is no list.
-- Assumes nothing.
use mathlib.Core.Path.{◌≡◌, refl, ap, ◌∙◌}
use mathlib.Core.Bool.{true, false}
use mathlib.Core.List.{List}
use mathlib.Core.Option.{Option, none, some}
use Prim.Native.Nat.{ℕ}
use lib.ListN.{drop}
use Rattle.slices.proofs.Choice.{pick_yes, pick_no}
use Rattle.tlv_head.specs.Head.{constructed}
use Rattle.slices.specs.Tests.{is_some}
use Rattle.tlv_list.specs.Objects.{Object, between, before, right_inside, objects, is_list}
use Rattle.tlv_list.specs.Place.{next_at}
use Rattle.tlv_head.specs.declared.Next.{Next}
use Rattle.tlv_head.specs.declared.Next.TheVariants.{Member, End, Broken}
use Rattle.tlv_list.proofs.Reading.{following, objects_next}

is_some_before : (m : Object) (o : Option (List Object)) → is_some (before m o) ≡ is_some o
unfolding is_some before
is_some_before m none = refl
is_some_before m (some ms) = refl

module _ (s : List ℕ) (at : ℕ) where
  found : (n : Next) → next_at s at ≡ n → is_list (drop at s) ≡ is_some (following s n)
  unfolding is_list
  found n e = ap is_some (objects_next s at ∙ ap (following s) e)

  pub check_end : next_at s at ≡ End → is_list (drop at s) ≡ true
  unfolding following is_some
  check_end e = found End e

  pub check_broken : next_at s at ≡ Broken → is_list (drop at s) ≡ false
  unfolding following is_some
  check_broken e = found Broken e

  module _ (tag start end : ℕ) (e : next_at s at ≡ Member tag start end) where
    on_right : right_inside objects (record { tag = tag; value = between s start end }) ≡ true → is_list (drop at s) ≡ is_list (drop end s)
    unfolding following is_list
    on_right r = found (Member tag start end) e ∙ (ap is_some (pick_yes _ _ _ r) ∙ is_some_before _ _)

    pub check_plain : constructed tag ≡ false → is_list (drop at s) ≡ is_list (drop end s)
    unfolding right_inside
    check_plain p = on_right (pick_no _ _ _ p)

    pub check_inside : constructed tag ≡ true → is_list (between s start end) ≡ true → is_list (drop at s) ≡ is_list (drop end s)
    unfolding right_inside is_list
    check_inside p i = on_right (pick_yes _ _ _ p ∙ i)

    pub check_outside : constructed tag ≡ true → is_list (between s start end) ≡ false → is_list (drop at s) ≡ false
    unfolding right_inside is_list following is_some
    check_outside p i = found (Member tag start end) e ∙ ap is_some (pick_no _ _ _ (pick_yes _ _ _ p ∙ i))
