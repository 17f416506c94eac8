-- An answer whose one object is constructed, by what one pass over its members found: whether they are a list, which is the rest of
-- reason 3, and what stands under each name.
-- Assumes nothing.
use mathlib.Core.Path.{◌≡◌, refl, sym, ap, subst, ◌∙◌}
use mathlib.Core.Bool.{Bool, true, false}
use mathlib.Core.List.{List, ◌++◌}
use Prim.Native.Nat.{ℕ, ◌≤◌}
use lib.ListN.{length}
use Rattle.slices.specs.Choice.{first_of}
use Rattle.slices.proofs.Choice.{pick_yes, pick_no, either}
use Rattle.tlv_head.specs.Head.{constructed}
use Rattle.tlv_list.specs.Objects.{between, right_inside, objects, is_list}
use Rattle.tlv_list.specs.Place.{data_field}
use Rattle.tlv_list.specs.Lookup.{find_in_checked, found_value, members_of, no_members}
use Rattle.tlv_list.specs.declared.Members.{Members}
use Rattle.tlv_list.specs.declared.Found.{Found as Place}
use Rattle.tlv_list.specs.declared.Found.TheVariants.{Absent, Once, Twice}
use Rattle.tlv_list.proofs.Refusals.{checked}
use Rattle.answer_common.specs.Answer.{outer, is_one, inside, frame}
use Rattle.answer_common.specs.Named.{listed, among, direct, standing, times, found_times}
use Rattle.answer_common.specs.Single.{single_of}
use Rattle.answer_common.specs.declared.answer.Single.TheVariants.{Object}
use Rattle.answer_common.proofs.Members.{list_standing}
use Rattle.answer_common.proofs.Single.{at, looked, Right, Found, one_single, found, no_list, on_lines, inside_one, is_one_lem}
use Rattle.answer_common.proofs.Single.{other_tag}

pub times_found : (s : List ℕ) (f : Place) → times (found_value s f) ≡ found_times f
unfolding times found_value found_times
times_found s Absent = refl
times_found s (Once a e) = refl
times_found s Twice = refl

-- what one pass says of some bytes
module _ (s : List ℕ) (a b c d : ℕ) (short : length s ≤ 4096) where
  pub members_list : (members_of s a b c d).list ≡ is_list s
  unfolding members_of no_members
  members_list =
      either (is_list s)
      (λ y. ap (λ (m : Members). m.list) (pick_yes _ _ _ (checked s short ∙ y)) ∙ sym y)
      (λ n. ap (λ (m : Members). m.list) (pick_no _ _ _ (checked s short ∙ n)) ∙ sym n)

  module _ (l : is_list s ≡ true) where
    -- what stands under a name, by what was found of it
    seen : (name : ℕ) (f : Place) → f ≡ find_in_checked s name → among s name ≡ found_value s f
    unfolding standing
    seen name f e = sym (ap (λ look. look name) (list_standing s l)) ∙ ap (found_value s) (sym e)

    pub in_first : among s a ≡ found_value s (members_of s a b c d).first
    unfolding members_of
    in_first = seen a _ (ap (λ (m : Members). m.first) (pick_yes _ _ _ (checked s short ∙ l)))

    pub in_second : among s b ≡ found_value s (members_of s a b c d).second
    unfolding members_of
    in_second = seen b _ (ap (λ (m : Members). m.second) (pick_yes _ _ _ (checked s short ∙ l)))

    pub in_third : among s c ≡ found_value s (members_of s a b c d).third
    unfolding members_of
    in_third = seen c _ (ap (λ (m : Members). m.third) (pick_yes _ _ _ (checked s short ∙ l)))

    pub in_fourth : among s d ≡ found_value s (members_of s a b c d).fourth
    unfolding members_of
    in_fourth = seen d _ (ap (λ (m : Members). m.fourth) (pick_yes _ _ _ (checked s short ∙ l)))

-- what is known once the one object was found
module _ (a : List ℕ) (tag start end : ℕ) (e : single_of a ≡ Object tag start end) where
  pub record Known : Type 0 where
    pub right : Right a
    pub one : outer a ≡ looked (at (data_field a) tag start end)
    pub short : length (between (data_field a) start end) ≤ 254

  of_found : Found a (Object tag start end) → Known
  of_found (one_single r f k) = record { right = r; one = f; short = k }

  pub known : Known
  known = of_found (subst (Found a) e (found a))

  module _ (expected : List ℕ) (lines : List (Bool × ℕ)) where
    abbrev all : ℕ
    all = first_of (frame expected a ++ lines)

    -- another tag than those expected
    pub unexpected : listed tag expected ≡ false → all ≡ 3
    unexpected n =
        either (right_inside objects (at (data_field a) tag start end))
        (λ k. other_tag a expected lines known.right (at (data_field a) tag start end) known.one k n)
        (λ k. no_list a expected lines known.right (at (data_field a) tag start end) known.one k)

    module _ (x : listed tag expected ≡ true) where
      -- a primitive object is not looked into
      module _ (c : constructed tag ≡ false) where
        plain : right_inside objects (at (data_field a) tag start end) ≡ true
        unfolding right_inside
        plain = pick_no _ _ _ c

        pub plain_lines : all ≡ first_of lines
        plain_lines = on_lines a expected lines known.right (at (data_field a) tag start end) known.one plain x

        pub plain_inside : inside tag a ≡ between (data_field a) start end
        plain_inside = inside_one a expected lines known.right (at (data_field a) tag start end) known.one plain

        pub plain_one : is_one tag a ≡ true
        plain_one = is_one_lem a expected lines known.right (at (data_field a) tag start end) known.one plain

      module _ (c : constructed tag ≡ true) where
        as_list : right_inside objects (at (data_field a) tag start end) ≡ is_list (between (data_field a) start end)
        unfolding right_inside is_list
        as_list = pick_yes _ _ _ c

        pub list_refused : is_list (between (data_field a) start end) ≡ false → all ≡ 3
        list_refused n = no_list a expected lines known.right (at (data_field a) tag start end) known.one (as_list ∙ n)

        module _ (l : is_list (between (data_field a) start end) ≡ true) where
          pub list_lines : all ≡ first_of lines
          list_lines = on_lines a expected lines known.right (at (data_field a) tag start end) known.one (as_list ∙ l) x

          pub list_direct : direct tag a ≡ among (between (data_field a) start end)
          unfolding direct
          list_direct = ap among (inside_one a expected lines known.right (at (data_field a) tag start end) known.one (as_list ∙ l))

          pub list_one : is_one tag a ≡ true
          list_one = is_one_lem a expected lines known.right (at (data_field a) tag start end) known.one (as_list ∙ l)
