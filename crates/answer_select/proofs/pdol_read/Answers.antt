-- `answer_select::pdol_read` meets its contract: 9F38 in A5's value, both by place.
-- Assumes nothing.
use mathlib.Core.Path.{◌≡◌, sym, ap, ◌∙◌}
use mathlib.Core.List.{List, []}
use Prim.Native.Nat.{ℕ}
use Rattle.tlv_list.specs.Objects.{between}
use Rattle.tlv_list.specs.Place.{data_field}
use Rattle.answer_common.specs.Named.{standing, value_of}
use Rattle.answer_common.specs.Single.{single_of, read_by}
use Rattle.answer_common.specs.declared.answer.Single.TheVariants.{Refused, Object}
use Rattle.answer_select.specs.Select.{pdol_in, pdol_read}
use Rattle.answer_select.proofs.pdol_read.Goals as goal

module _ (a : List ℕ) where
  nothing : (why : ℕ) → single_of a ≡ Refused why → [] ≡ pdol_read a
  unfolding pdol_read read_by
  nothing why e = sym (ap (read_by pdol_in (data_field a)) e)

  there : (tag start end : ℕ) → single_of a ≡ Object tag start end → (v : List ℕ) → v ≡ between (data_field a) start end
      → value_of (standing (value_of (standing v 0xA5)) 0x9F38) ≡ pdol_read a
  unfolding pdol_read pdol_in read_by
  there tag start end e v here = ap (pdol_in tag) here ∙ sym (ap (read_by pdol_in (data_field a)) e)

pub returns-in-Refused : goal.returns-in-Refused
returns-in-Refused c =
    nothing c.args.answer.now c.in-Refused.field-0 (sym c.single_of.ensures ∙ c.in-Refused.is)

pub returns-in-Object : goal.returns-in-Object
returns-in-Object c =
    let here = c.value-v.ensures ∙ ap (λ (x : List ℕ). between x c.in-Object.start c.in-Object.end) c.data_field.ensures in
    c.value_in_checked-in-Object.ensures
    ∙ (ap (λ (x : List ℕ). value_of (standing x 0x9F38)) c.value_in_checked.ensures
    ∙ there c.args.answer.now c.in-Object.tag c.in-Object.start c.in-Object.end (sym c.single_of.ensures ∙ c.in-Object.is)
    c.value-v.result.now here)
