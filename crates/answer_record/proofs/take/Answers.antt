-- `answer_record::take` meets its contract: what the one object is decides, and its members are gone through once.
-- Assumes nothing.
use mathlib.Core.Path.{◌≡◌, sym, ap, ◌∙◌}
use mathlib.Core.List.{List}
use Prim.Native.Nat.{ℕ}
use borrow.Author.Tests.{eq-eqb, ne_eqb}
use Rattle.slices.proofs.Choice.{pick_yes, pick_no}
use Rattle.tlv_list.specs.Objects.{between}
use Rattle.tlv_list.specs.Place.{data_field}
use Rattle.answer_common.specs.Content.{record_tag}
use Rattle.answer_common.specs.Single.{single_of}
use Rattle.answer_common.specs.declared.answer.Single.{Single}
use Rattle.answer_common.specs.declared.answer.Single.TheVariants.{Refused, Object}
use Rattle.answer_record.specs.Taken.{taken, taken_from, taken_in, record_taken}
use Rattle.answer_record.proofs.take.Goals as goal

module _ (names a d : List ℕ) where
  found : (o : Single) → single_of a ≡ o → taken_in names a d o ≡ record_taken names a d
  unfolding record_taken
  found o e = sym (ap (taken_in names a d) e)

  refused : (why : ℕ) → single_of a ≡ Refused why → taken why d ≡ record_taken names a d
  unfolding taken_in
  refused why e = found (Refused why) e

  module _ (tag start end : ℕ) (e : single_of a ≡ Object tag start end) where
    other : (tag ≡ record_tag → ⊥) → taken 3 d ≡ record_taken names a d
    unfolding taken_in
    other n = sym (pick_no _ _ _ (ne_eqb tag record_tag n)) ∙ found (Object tag start end) e

    members : tag ≡ record_tag → taken_from names (between (data_field a) start end) 0 (taken 0 d) ≡ record_taken names a d
    unfolding taken_in
    members y = sym (pick_yes _ _ _ (eq-eqb tag record_tag y)) ∙ found (Object tag start end) e

pub returns-then-tag-ne-RECORD : goal.returns-then-tag-ne-RECORD
returns-then-tag-ne-RECORD c =
    other _ _ _ c.in-Object.tag c.in-Object.start c.in-Object.end (sym c.single_of.ensures ∙ c.in-Object.is) c.if-tag-ne-RECORD.true

pub returns-in-Refused : goal.returns-in-Refused
returns-in-Refused c =
    refused _ _ _ c.in-Refused.why (sym c.single_of.ensures ∙ c.in-Refused.is)

pub returns-else-tag-ne-RECORD : goal.returns-else-tag-ne-RECORD
returns-else-tag-ne-RECORD c =
    let a = c.args in
    c.take_all.ensures
    ∙ (ap (λ (s : List ℕ). taken_from a.names.now s 0 (taken 0 a.told.now))
    (c.value.ensures ∙ ap (λ (s : List ℕ). between s c.in-Object.start c.in-Object.end) c.data_field.ensures)
    ∙ members a.names.now a.answer.now a.told.now c.in-Object.tag c.in-Object.start c.in-Object.end
    (sym c.single_of.ensures ∙ c.in-Object.is) c.if-tag-ne-RECORD.false)
