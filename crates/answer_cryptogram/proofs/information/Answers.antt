-- `answer_cryptogram::information` meets its contract: the joined bytes, or the value of 9F27.
-- Assumes nothing.
use mathlib.Core.Path.{sym, ap, ◌∙◌}
use Prim.Native.Nat.{ℕ}
use Rattle.slices.proofs.Choice.{pick_yes, pick_no}
use Rattle.tlv_list.specs.Lookup.{Lookup}
use Rattle.answer_common.specs.Named.{value_of}
use Rattle.answer_cryptogram.specs.Cryptogram.{information_of}
use Rattle.answer_common.proofs.Templates.{template_found}
use Rattle.answer_cryptogram.proofs.information.Goals as goal

pub returns-then-is_one : goal.returns-then-is_one
unfolding information_of
returns-then-is_one c =
    c.inside.ensures ∙ sym (pick_yes _ _ _ (sym c.is_one.ensures ∙ c.if-is_one.true))

pub returns-else-is_one : goal.returns-else-is_one
unfolding information_of
returns-else-is_one c =
    c.value_in_checked.ensures
    ∙ (ap (λ (look : ℕ → Lookup). value_of (look 0x9F27)) (template_found _ c.inside-else-is_one.ensures)
    ∙ sym (pick_no _ _ _ (sym c.is_one.ensures ∙ c.if-is_one.false)))
