-- `forms::read_form` meets its contract: the definition's own cases.
-- Assumes nothing.
use mathlib.Core.Path.{◌≡◌, sym, ap, ◌∙◌}
use mathlib.Core.List.{List, []}
use Prim.Native.Nat.{ℕ}
use lib.ListN.{take, drop}
use borrow.Author.Tests.{eq-eqb, ne_eqb}
use Rattle.slices.proofs.Choice.{pick_yes, pick_no}
use Rattle.tlv_list.specs.Objects.{between}
use Rattle.tlv_list.specs.Place.{data_field}
use Rattle.answer_common.specs.Forms.{joined, form_in, read_form}
use Rattle.answer_common.specs.Named.{standing, value_of}
use Rattle.answer_common.specs.Single.{single_of, read_by}
use Rattle.answer_common.specs.declared.answer.Single.TheVariants.{Refused, Object}
use Rattle.answer_common.proofs.forms.read_form.Goals as goal

module _ (from n name : ℕ) (a : List ℕ) where
  nothing : (why : ℕ) → single_of a ≡ Refused why → [] ≡ read_form from n name a
  unfolding read_form read_by
  nothing why e = sym (ap (read_by (form_in from n name) (data_field a)) e)

  module _ (tag start end : ℕ) (e : single_of a ≡ Object tag start end) (v : List ℕ) (here : v ≡ between (data_field a) start end) where
    there : form_in from n name tag v ≡ read_form from n name a
    unfolding read_form read_by
    there = ap (form_in from n name tag) here ∙ sym (ap (read_by (form_in from n name) (data_field a)) e)

    in_joined : tag ≡ joined → take n (drop from v) ≡ read_form from n name a
    unfolding form_in
    in_joined t = sym (pick_yes _ _ _ (eq-eqb tag joined t)) ∙ there

    in_template : (tag ≡ joined → ⊥) → value_of (standing v name) ≡ read_form from n name a
    unfolding form_in
    in_template t = sym (pick_no _ _ _ (ne_eqb tag joined t)) ∙ there

pub returns-in-Refused : goal.returns-in-Refused
returns-in-Refused c =
    let a = c.args in
    nothing a.from a.n a.name a.answer.now c.in-Refused.field-0 (sym c.single_of.ensures ∙ c.in-Refused.is)

pub returns-then-tag-eq-JOINED : goal.returns-then-tag-eq-JOINED
returns-then-tag-eq-JOINED c =
    let here : c.value-v.result.now ≡ between (data_field c.args.answer.now) c.in-Object.start c.in-Object.end =
    c.value-v.ensures ∙ ap (λ (s : List ℕ). between s c.in-Object.start c.in-Object.end) c.data_field.ensures
    in
    let a = c.args in
    c.part.ensures
    ∙ in_joined a.from a.n a.name a.answer.now c.in-Object.tag c.in-Object.start c.in-Object.end (sym c.single_of.ensures ∙ c.in-Object.is)
    c.value-v.result.now (here) c.if-tag-eq-JOINED.true

pub returns-else-tag-eq-JOINED : goal.returns-else-tag-eq-JOINED
returns-else-tag-eq-JOINED c =
    let here : c.value-v.result.now ≡ between (data_field c.args.answer.now) c.in-Object.start c.in-Object.end =
    c.value-v.ensures ∙ ap (λ (s : List ℕ). between s c.in-Object.start c.in-Object.end) c.data_field.ensures
    in
    let a = c.args in
    c.value_in_checked.ensures
    ∙ in_template a.from a.n a.name a.answer.now c.in-Object.tag c.in-Object.start c.in-Object.end
    (sym c.single_of.ensures ∙ c.in-Object.is)
    c.value-v.result.now (here) c.if-tag-eq-JOINED.false
