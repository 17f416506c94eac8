-- `answer_gpo::locator` meets its contract: the joined bytes after the first two, or the value of 94.
-- Assumes nothing.
use mathlib.Core.Path.{sym, ap, ◌∙◌}
use Prim.Native.Nat.{ℕ}
use native.Mathlib.Omega.{arith}
use lib.ListN.{length, drop}
use Rattle.slices.proofs.Cutting.{to_end}
use Rattle.slices.proofs.Choice.{pick_yes, pick_no}
use Rattle.tlv_list.specs.Lookup.{Lookup}
use Rattle.answer_common.specs.Named.{value_of}
use Rattle.answer_gpo.specs.Options.{locator_of}
use Rattle.answer_common.proofs.Templates.{template_found}
use Rattle.answer_gpo.proofs.locator.Goals as goal

pub returns-then-is_one : goal.returns-then-is_one
unfolding locator_of
returns-then-is_one c =
    c.part.ensures
    ∙ (to_end (length c.inside-both.result.now) 2 c.inside-both.result.now (omega arith)
    ∙ (ap (drop 2) c.inside-both.ensures ∙ sym (pick_yes _ _ _ (sym c.is_one.ensures ∙ c.if-is_one.true))))

pub returns-else-is_one : goal.returns-else-is_one
unfolding locator_of
returns-else-is_one c =
    c.value_in_checked.ensures
    ∙ (ap (λ (look : ℕ → Lookup). value_of (look 0x94)) (template_found _ c.inside.ensures)
    ∙ sym (pick_no _ _ _ (sym c.is_one.ensures ∙ c.if-is_one.false)))
