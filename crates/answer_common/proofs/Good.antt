-- An answer that nothing speaks against: its one object is the one that stands by place, with an expected tag, so that what is read of it
-- by place is what it tells.
-- Assumes nothing.
use mathlib.Core.Path.{◌≡◌, refl, sym, ap, ◌∙◌}
use mathlib.Core.Bool.{Bool, true, false, false≢true}
use mathlib.Core.List.{List, ◌++◌}
use mathlib.Core.Option.{some}
use Prim.Native.Nat.{ℕ, suc}
use native.Mathlib.Omega.{arith}
use lib.Dec.{eqb}
use lib.ListN.{take, drop}
use Rattle.slices.specs.Choice.{pick, first_of}
use Rattle.slices.specs.Tables.{any_of}
use Rattle.slices.proofs.Choice.{pick_yes, pick_no, either}
use Rattle.tlv_list.specs.Objects.{Object as Obj, between, right_inside, objects}
use Rattle.tlv_list.specs.Place.{data_field}
use Rattle.tlv_list.specs.Lookup.{Lookup}
use Rattle.answer_common.specs.Answer.{outer, tagged, value_under, is_one, inside, frame}
use Rattle.answer_common.specs.Named.{listed, direct, value_of}
use Rattle.answer_common.specs.Forms.{template, joined, both_forms, form_in, read_form}
use Rattle.answer_common.specs.Single.{single_of, read_by}
use Rattle.answer_common.specs.declared.answer.Single.{Single}
use Rattle.answer_common.specs.declared.answer.Single.TheVariants.{Object}
use Rattle.answer_common.proofs.Templates.{template_found}
use Rattle.answer_common.proofs.Single.{at, Found, bad_size, bad_status, no_single, one_single, found, refused, no_list, other_tag}

pub record Answered (a expected : List ℕ) : Type 0 where
  pub object : Obj
  pub one : outer a ≡ some object
  pub named : listed object.tag expected ≡ true
  pub read : (f : ℕ → List ℕ → List ℕ) → read_by f (data_field a) (single_of a) ≡ f object.tag object.value

module _ (a expected : List ℕ) (lines : List (Bool × ℕ)) (good : first_of (frame expected a ++ lines) ≡ 0) where
  never : {A : Type 0} (why : ℕ) → first_of (frame expected a ++ lines) ≡ suc why → A
  never why e = let z : ◌≡◌ {A = ℕ} 0 (suc why) = sym good ∙ e in absurd (omega arith)

  reads : (tag start end : ℕ) → single_of a ≡ Object tag start end → (f : ℕ → List ℕ → List ℕ)
      → read_by f (data_field a) (single_of a) ≡ f tag (between (data_field a) start end)
  unfolding read_by
  reads tag start end e f = ap (read_by f (data_field a)) e

  by_found : (o : Single) → single_of a ≡ o → Found a o → Answered a expected
  by_found o e (bad_size x) = never 0 (refused a expected lines 1 (bad_size x))
  by_found o e (bad_status x y) = never 1 (refused a expected lines 2 (bad_status x y))
  by_found o e (no_single r x) = never 2 (refused a expected lines 3 (no_single r x))
  by_found o e (one_single r {tag} {start} {end} x short) =
      let m = at (data_field a) tag start end in
      either (right_inside objects m)
      (λ k. either (listed tag expected)
      (λ y. record { object = m; one = x ∙ pick_yes _ _ _ k; named = y; read = reads tag start end e })
      (λ n. never 2 (other_tag a expected lines r m x k n)))
      (λ k. never 2 (no_list a expected lines r m x k))

  pub answered : Answered a expected
  answered = by_found (single_of a) refl (found a)

module _ {a expected : List ℕ} (o : Answered a expected) where
  -- which one it is, and the value under its tag
  pub is_one_by : (tag : ℕ) → is_one tag a ≡ eqb o.object.tag tag
  unfolding is_one tagged
  is_one_by tag = ap (tagged tag) o.one

  pub inside_by : (tag : ℕ) → eqb o.object.tag tag ≡ true → inside tag a ≡ o.object.value
  unfolding inside value_under
  inside_by tag e = ap (value_under tag) o.one ∙ pick_yes _ _ _ e

  the_other : expected ≡ both_forms → eqb o.object.tag joined ≡ false → eqb o.object.tag template ≡ true
  unfolding listed any_of
  the_other e k =
      either (eqb o.object.tag template)
      (λ y. y)
      (λ n.
      absurd (false≢true (sym (pick_no _ _ _ n ∙ pick_no _ _ _ k) ∙ (ap (listed o.object.tag) (sym e) ∙ o.named))))

  -- a value of an answer that comes in two forms
  pub form_by : expected ≡ both_forms → (from n name : ℕ)
      → read_form from n name a ≡ pick (is_one joined a) (take n (drop from (inside joined a))) (value_of (direct template a name))
  unfolding read_form form_in
  form_by e from n name =
      o.read (form_in from n name)
      ∙ either (eqb o.object.tag joined)
      (λ y.
      pick_yes _ _ _ y
      ∙ (ap (λ (x : List ℕ). take n (drop from x)) (sym (inside_by joined y)) ∙ sym (pick_yes _ _ _ (is_one_by joined ∙ y))))
      (λ k.
      pick_no _ _ _ k
      ∙ (ap (λ (look : ℕ → Lookup). value_of (look name)) (template_found a (sym (inside_by template (the_other e k))))
      ∙ sym (pick_no _ _ _ (is_one_by joined ∙ k))))
