-- An answer's one object, as the reader by place finds it: the bytes are a list, an object stands at the front, and after it
-- there is none. An answer whose size is right has at most 256 bytes of data, so no list in it is too long to be read.
-- Assumes nothing.
use mathlib.Core.Path.{◌≡◌, refl, sym, ap, ◌∙◌}
use mathlib.Core.Bool.{true, false, not, false≢true}
use mathlib.Core.List.{List}
use mathlib.Core.Option.{Option, none, some}
use Prim.Native.Nat.{ℕ, ◌-◌, ◌≤◌}
use native.Mathlib.Omega.{arith}
use lib.Dec.{ltb}
use lib.ListN.{length, drop, length-take}
use borrow.Author.Tests.{ltb-false, le-ltb, not-true, not-false}
use Rattle.slices.specs.Choice.{first_of}
use Rattle.slices.proofs.Choice.{pick_yes, pick_no, picked, either}
use Rattle.slices.specs.Tests.{is_some}
use Rattle.tlv_list.specs.Objects.{Object, between, before, right_inside, objects, is_list, read_refusal}
use Rattle.tlv_list.specs.Place.{next_at, data_field}
use Rattle.tlv_head.specs.declared.Next.{Next}
use Rattle.tlv_head.specs.declared.Next.TheVariants.{Member, End, Broken}
use Rattle.tlv_list.proofs.Reading.{following, objects_next}
use Rattle.answer_common.specs.Answer.{size_bad, only, outer, the_one}
use Rattle.slices.proofs.Tables.{or_yes, or_no}

none_of : (o : Option (List Object)) → is_some o ≡ false → o ≡ none
unfolding is_some
none_of none e = refl
none_of (some ms) e = absurd (false≢true (sym e))

no_list : (s : List ℕ) → is_list s ≡ false → objects s ≡ none
unfolding is_list
no_list s e = none_of (objects s) e

-- below the reader's limit the refusal tells exactly whether the bytes are a list
pub refused : (s : List ℕ) → length s ≤ 4096 → (read_refusal s ≡ 0 → ⊥) → is_list s ≡ false
unfolding read_refusal first_of
refused s h =
    let short = le-ltb 4096 (length s) h in
    picked (λ n. (n ≡ 0 → ⊥) → is_list s ≡ false) (ltb 4096 (length s)) 9 _ (λ e. absurd (false≢true (sym short ∙ e))) (λ e.
    picked (λ n. (n ≡ 0 → ⊥) → is_list s ≡ false) (not (is_list s)) 9 0 (λ f k. not-true _ f) (λ f k. absurd (k refl)))

pub not_refused : (s : List ℕ) → read_refusal s ≡ 0 → is_list s ≡ true
unfolding read_refusal first_of
not_refused s =
    picked (λ n. n ≡ 0 → is_list s ≡ true) (ltb 4096 (length s)) 9 _ (λ e k. absurd (omega arith)) (λ e.
    picked (λ n. n ≡ 0 → is_list s ≡ true) (not (is_list s)) 9 0 (λ f k. absurd (omega arith)) (λ f k. not-false _ f))

module _ (s : List ℕ) where
  pub only_refused : is_list s ≡ false → the_one s Broken ≡ only (objects s)
  unfolding the_one only
  only_refused e = sym (ap only (no_list s e))

  pub only_end : next_at s 0 ≡ End → the_one s End ≡ only (objects s)
  unfolding the_one only following
  only_end e = sym (ap only (objects_next s 0 ∙ ap (following s) e))

  pub only_broken : next_at s 0 ≡ Broken → the_one s Broken ≡ only (objects s)
  unfolding the_one only following
  only_broken e = sym (ap only (objects_next s 0 ∙ ap (following s) e))

  module _ (is_list_lem : is_list s ≡ true) (tag start end : ℕ) (e : next_at s 0 ≡ Member tag start end) where
    m : Object
    m = record { tag = tag; value = between s start end }

    -- an object stands at the front, and the others follow it
    in_front : objects s ≡ before m (objects (drop end s))
    unfolding m following is_list is_some
    in_front =
        let found = objects_next s 0 ∙ ap (following s) e in
        let chosen = right_inside objects m in
        either chosen
        (λ y. found ∙ pick_yes _ _ _ y)
        (λ n. absurd (false≢true (sym (ap is_some (found ∙ pick_no _ _ _ n)) ∙ is_list_lem)))

    pub only_one : next_at s end ≡ End → the_one s (Member tag start end) ≡ only (objects s)
    unfolding the_one only m before following
    only_one f = sym (ap only (in_front ∙ ap (before m) (objects_next s end ∙ ap (following s) f)))

    pub only_then_broken : next_at s end ≡ Broken → the_one s Broken ≡ only (objects s)
    unfolding the_one only m before following
    only_then_broken f = sym (ap only (in_front ∙ ap (before m) (objects_next s end ∙ ap (following s) f)))

    more : (n : Object) (o : Option (List Object)) → only (before m (before n o)) ≡ none
    unfolding only before
    more n none = refl
    more n (some ms) = refl

    pub only_and_more : (t a z : ℕ) → next_at s end ≡ Member t a z → the_one s Broken ≡ only (objects s)
    unfolding the_one only before following
    only_and_more t a z f =
        let n : Object = record { tag = t; value = between s a z } in
        sym
        (ap only (in_front ∙ ap (before m) (objects_next s end ∙ ap (following s) f))
        ∙ picked (λ o. only (before m o) ≡ none) (right_inside objects n) (before n (objects (drop z s))) none
        (λ y. more n (objects (drop z s)))
        (λ k. refl))

module _ (a : List ℕ) where
  pub outer_refused : size_bad a ≡ true → outer a ≡ none
  unfolding outer
  outer_refused e = pick_yes _ _ _ e

  pub outer_looked : size_bad a ≡ false → outer a ≡ only (objects (data_field a))
  unfolding outer
  outer_looked e = pick_no _ _ _ e

  -- an answer of a right size
  pub size_right : size_bad a ≡ false → (2 ≤ length a) × (length a ≤ 258)
  unfolding size_bad
  size_right e =
      let low = either (ltb (length a) 2) (λ y. absurd (false≢true (sym e ∙ or_yes refl _ y ∙ y))) (λ n. ltb-false (length a) 2 n) in
      let high = ltb-false 258 (length a) (sym (or_no refl _ (le-ltb (length a) 2 low)) ∙ e) in
      (low, high)

  pub data_length : length (data_field a) ≤ length a - 2
  unfolding data_field
  data_length = rw length-take (omega arith)

  pub data_short : size_bad a ≡ false → length (data_field a) ≤ 4096
  data_short e = let size = size_right e in let data_size_lem = data_length in omega arith

  -- the place of what was found tells the object
  pub by_place : {r n : Next} → the_one (data_field a) r ≡ outer a → r ≡ n → outer a ≡ the_one (data_field a) n
  by_place e f = sym e ∙ ap (the_one (data_field a)) f
