-- What is seen of an answer depends neither on what stands between the members of its one object without being seen (Unseen), nor on how
-- that object is written.
-- Assumes nothing.
use mathlib.Core.Path.{◌≡◌, refl, sym, ap, ◌∙◌}
use mathlib.Core.Bool.{true, false, not, false≢true}
use mathlib.Core.List.{List, [], ◌∷◌}
use Prim.Native.Nat.{ℕ}
use native.Mathlib.Omega.{arith}
use Rattle.slices.specs.Tables.{any_of}
use Rattle.slices.proofs.Choice.{pick_yes, pick_no, either}
use Rattle.tlv_list.specs.Objects.{Object}
use Rattle.answer_common.specs.Answer.{size_bad, outer, tagged, is_one, inside, outer_bad}
use Rattle.answer_common.specs.Content.{record_tag}
use Rattle.answer_common.specs.Named.{members_in}
use Rattle.answer_common.specs.Forms.{template, joined, both_forms}
use Rattle.answer_common.proofs.Absent.{not_inside, one_form}
use Rattle.answer_select.specs.Select.{select_tag}
use Rattle.card_seen.specs.Seen.{Place, selection, options, reading, generation}
use Rattle.card_seen.specs.Seen.{environment, directory, application, names_at, expected_at, apart_options, apart_cryptogram}
use Rattle.card_seen.specs.Seen.{in_forms, objects_at, shown, named_at, seen}
use Rattle.card_seen.specs.Dressing.{template_at, Dressed, JoinedAgain, OtherForm}
use Rattle.card_seen.proofs.Forms.{not_joined, joined_expected}
use Rattle.card_seen.proofs.Unseen.{members_same, unseen_alike}

-- ---- answers

-- an answer that is looked into has a right size
size_right : (tag : ℕ) (a : List ℕ) → is_one tag a ≡ true → size_bad a ≡ false
unfolding is_one outer tagged
size_right tag a e = either (size_bad a) (λ y. absurd (false≢true (sym (ap (tagged tag) (pick_yes _ _ _ y)) ∙ e))) (λ n. n)

same_size : (tag other : ℕ) (a b : List ℕ) → is_one tag a ≡ true → is_one other b ≡ true → size_bad a ≡ size_bad b
same_size tag other a b e f = size_right tag a e ∙ sym (size_right other b f)

template_expected : (p : Place) (a : List ℕ) → is_one (template_at p) a ≡ true → outer_bad (expected_at p) a ≡ false
unfolding template_at expected_at outer_bad any_of
template_expected selection a e = ap not (pick_yes _ _ _ e)
template_expected options a e = ap not (pick_yes _ _ _ e)
template_expected (reading names) a e = ap not (pick_yes _ _ _ e)
template_expected generation a e = ap not (pick_yes _ _ _ e)
template_expected environment a e = ap not (pick_yes _ _ _ e)
template_expected directory a e = ap not (pick_yes _ _ _ e)
template_expected application a e = ap not (pick_yes _ _ _ e)

template_objects : (p : Place) (a : List ℕ) → is_one (template_at p) a ≡ true → objects_at p a ≡ members_in (inside (template_at p) a)
unfolding template_at objects_at in_forms
template_objects selection a e = refl
template_objects options a e = pick_no _ _ _ (not_joined a e)
template_objects (reading names) a e = refl
template_objects generation a e = pick_no _ _ _ (not_joined a e)
template_objects environment a e = refl
template_objects directory a e = refl
template_objects application a e = refl

module _ (p : Place) (a b : List ℕ) (d : Dressed p a b) where
  same_form : outer_bad (expected_at p) a ≡ outer_bad (expected_at p) b
  same_form = template_expected p a d.first_one ∙ sym (template_expected p b d.second_one)

  members_seen : shown (names_at p) (members_in (inside (template_at p) a)) ≡ shown (names_at p) (members_in (inside (template_at p) b))
  members_seen =
      let m = d.members in
      ap (λ (s : List ℕ). shown (names_at p) (members_in s)) m.first
      ∙ (members_same (names_at p) m.front m.behind m.one m.other m.front_objects m.behind_objects m.front_list
      m.behind_list (unseen_alike m.unseen)
      ∙ sym (ap (λ (s : List ℕ). shown (names_at p) (members_in s)) m.second))

  same_objects : named_at p a ≡ named_at p b
  unfolding named_at
  same_objects =
      ap (shown (names_at p)) (template_objects p a d.first_one)
      ∙ (members_seen ∙ sym (ap (shown (names_at p)) (template_objects p b d.second_one)))

  pub dressed_seen : seen p a ≡ seen p b
  unfolding seen
  dressed_seen = λ i. record {
    size_wrong = same_size (template_at p) (template_at p) a b d.first_one d.second_one i;
    status = d.status i;
    form_wrong = same_form i;
    objects = same_objects i;
  }

-- ---- joined answers

-- at a place where joined values are not expected both are seen as no expected object, with nothing in it
module _ (tag : ℕ) (other : joined ≡ tag → ⊥) (a : List ℕ) (e : is_one joined a ≡ true) where
  not_expected : outer_bad (tag ∷ []) a ≡ true
  unfolding outer_bad any_of
  not_expected = ap not (pick_no _ _ _ (one_form joined tag a other e))

  nothing_inside : members_in (inside tag a) ≡ members_in []
  nothing_inside = ap members_in (not_inside tag a (one_form joined tag a other e))

joined_objects : (apart : List ℕ → List Object) (a : List ℕ) → is_one joined a ≡ true → in_forms apart a ≡ apart (inside joined a)
unfolding in_forms
joined_objects apart a e = pick_yes _ _ _ e

module _ (a b : List ℕ) (again : JoinedAgain a b) where
  again_unexpected : (tag : ℕ) → (joined ≡ tag → ⊥) → outer_bad (tag ∷ []) a ≡ outer_bad (tag ∷ []) b
  again_unexpected tag k = not_expected tag k a again.first_one ∙ sym (not_expected tag k b again.second_one)

  again_expected : outer_bad both_forms a ≡ outer_bad both_forms b
  again_expected = joined_expected a again.first_one ∙ sym (joined_expected b again.second_one)

  again_form : (p : Place) → outer_bad (expected_at p) a ≡ outer_bad (expected_at p) b
  unfolding expected_at
  again_form selection = again_unexpected select_tag (λ z. omega arith)
  again_form options = again_expected
  again_form (reading names) = again_unexpected record_tag (λ z. omega arith)
  again_form generation = again_expected
  again_form environment = again_unexpected select_tag (λ z. omega arith)
  again_form directory = again_unexpected record_tag (λ z. omega arith)
  again_form application = again_unexpected select_tag (λ z. omega arith)

  values_same : (apart : List ℕ → List Object) → in_forms apart a ≡ in_forms apart b
  values_same apart =
      joined_objects apart a again.first_one
      ∙ (ap apart again.values ∙ sym (joined_objects apart b again.second_one))

  none_same : (tag : ℕ) → (joined ≡ tag → ⊥) → members_in (inside tag a) ≡ members_in (inside tag b)
  none_same tag k = nothing_inside tag k a again.first_one ∙ sym (nothing_inside tag k b again.second_one)

  again_objects : (p : Place) → objects_at p a ≡ objects_at p b
  unfolding objects_at
  again_objects selection = none_same select_tag (λ z. omega arith)
  again_objects options = values_same apart_options
  again_objects (reading names) = none_same record_tag (λ z. omega arith)
  again_objects generation = values_same apart_cryptogram
  again_objects environment = none_same select_tag (λ z. omega arith)
  again_objects directory = none_same record_tag (λ z. omega arith)
  again_objects application = none_same select_tag (λ z. omega arith)

pub joined_again_seen : (p : Place) (a b : List ℕ) → JoinedAgain a b → seen p a ≡ seen p b
unfolding seen named_at
joined_again_seen p a b again = λ i. record {
  size_wrong = same_size joined joined a b again.first_one again.second_one i;
  status = again.status i;
  form_wrong = again_form a b again p i;
  objects = shown (names_at p) (again_objects a b again p i);
}

-- ---- one form for the other

module _ (p : Place) (apart : List ℕ → List Object) (forms : (a : List ℕ) → objects_at p a ≡ in_forms apart a)
    (expected : expected_at p ≡ both_forms) (a b : List ℕ) (f : OtherForm p apart a b) where
  forms_form : outer_bad (expected_at p) a ≡ outer_bad (expected_at p) b
  unfolding outer_bad any_of
  forms_form =
      let e : outer_bad (both_forms) b ≡ false = ap not (pick_yes _ _ _ f.second_one) in
      ap (λ (tags : List ℕ). outer_bad tags a) expected
      ∙ (joined_expected a f.first_one ∙ (sym e ∙ sym (ap (λ (tags : List ℕ). outer_bad tags b) expected)))

  forms_objects : named_at p a ≡ named_at p b
  unfolding named_at in_forms
  forms_objects =
      ap (shown (names_at p)) (forms a ∙ joined_objects apart a f.first_one)
      ∙ (f.objects ∙ sym (ap (shown (names_at p)) (forms b ∙ pick_no _ _ _ (not_joined b f.second_one))))

  either_form : seen p a ≡ seen p b
  unfolding seen
  either_form = λ i. record {
    size_wrong = same_size joined template a b f.first_one f.second_one i;
    status = f.status i;
    form_wrong = forms_form i;
    objects = forms_objects i;
  }

pub options_forms : (a b : List ℕ) → OtherForm options apart_options a b → seen options a ≡ seen options b
unfolding objects_at expected_at
options_forms a b f = either_form options apart_options (λ s. refl) refl a b f

pub cryptogram_forms : (a b : List ℕ) → OtherForm generation apart_cryptogram a b → seen generation a ≡ seen generation b
unfolding objects_at expected_at
cryptogram_forms a b f = either_form generation apart_cryptogram (λ s. refl) refl a b f
