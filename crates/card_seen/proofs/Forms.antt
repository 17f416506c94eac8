-- What GPO and GENERATE AC share: an answer is joined, a template, or neither, which is reason 3 whatever else is in it. Of a template the
-- members are seen, and of an answer that is joined no template's member is asked for.
-- Assumes nothing.
use mathlib.Core.Path.{◌≡◌, refl, sym, ap, ◌∙◌}
use mathlib.Core.Bool.{Bool, true, false, not}
use mathlib.Core.List.{List, ◌++◌}
use Prim.Native.Nat.{ℕ}
use native.Mathlib.Omega.{arith}
use Rattle.slices.specs.Choice.{first_of}
use Rattle.slices.specs.Tables.{any_of}
use Rattle.slices.proofs.Choice.{pick_yes, pick_no, either}
use Rattle.slices.proofs.Tables.{and_no}
use Rattle.tlv_list.specs.Objects.{Object}
use Rattle.answer_common.specs.Answer.{is_one, inside, outer_bad, frame}
use Rattle.answer_common.specs.Named.{members_in, listed, among, direct}
use Rattle.answer_common.specs.Forms.{template, joined, both_forms, lacks}
use Rattle.answer_common.proofs.Absent.{one_form}
use Rattle.card_seen.specs.Seen.{wholly, Place, expected_at, in_forms, shown, seen}
use Rattle.card_seen.proofs.Looking.{under, look_named}
use Rattle.card_seen.proofs.Frames.{frame_by, lines_seen, lines_unseen}

pub not_template : (a : List ℕ) → is_one joined a ≡ true → is_one template a ≡ false
not_template a y = one_form joined template a (λ e. omega arith) y

pub not_joined : (a : List ℕ) → is_one template a ≡ true → is_one joined a ≡ false
not_joined a y = one_form template joined a (λ e. omega arith) y

-- joined values lack nothing: they are told apart by their places
pub joined_lacks : (names a : List ℕ) → is_one joined a ≡ true → lacks names a ≡ false
unfolding lacks
joined_lacks names a y = and_no refl _ (not_template a y) ∙ not_template a y

pub in_template : (names : List ℕ) (apart : List ℕ → List Object) (a : List ℕ) → is_one joined a ≡ false → (name : ℕ)
    → listed name names ≡ true → direct template a name ≡ under (shown (wholly names) (in_forms apart a)) name
unfolding direct among in_forms
in_template names apart a n name l =
    sym (look_named names name l (members_in (inside template a)))
    ∙ ap (λ (ms : List Object). under (shown (wholly names) ms) name) (sym (pick_no _ _ _ n))

-- which of the two an answer is expected to be
pub joined_expected : (a : List ℕ) → is_one joined a ≡ true → outer_bad both_forms a ≡ false
unfolding outer_bad any_of
joined_expected a y = ap not (pick_no _ _ _ (not_template a y) ∙ pick_yes _ _ _ y)

neither : (a : List ℕ) → is_one joined a ≡ false → is_one template a ≡ false → outer_bad both_forms a ≡ true
unfolding outer_bad any_of
neither a n k = ap not (pick_no _ _ _ k ∙ pick_no _ _ _ n)

-- the first line that applies, by the form
pub by_form : (p : Place) (a : List ℕ) (x y : List (Bool × ℕ)) → expected_at p ≡ both_forms
    → (is_one joined a ≡ true → first_of x ≡ first_of y)
    → (is_one joined a ≡ false → is_one template a ≡ true → first_of x ≡ first_of y)
    → first_of (frame (expected_at p) a ++ x) ≡ first_of (frame_by (seen p a) ++ y)
by_form p a x y e one other =
    either (is_one joined a)
    (λ j. lines_seen p a x y (one j))
    (λ n.
    either (is_one template a)
    (λ t. lines_seen p a x y (other n t))
    (λ k. lines_unseen p a x y (ap (λ (tags : List ℕ). outer_bad tags a) e ∙ neither a n k)))
