-- `place::list_refusal` meets its contract: the lines of the list, one after the other.
-- Assumes nothing.
use mathlib.Core.Path.{sym, ap, ◌∙◌}
use mathlib.Core.Bool.{not}
use borrow.Author.Tests.{lt-ltb, le-ltb}
use Rattle.slices.specs.Choice.{first_of}
use Rattle.slices.proofs.Choice.{pick_yes, pick_no}
use Rattle.tlv_list.specs.Objects.{read_refusal}
use Rattle.tlv_list.proofs.place.list_refusal.Goals as goal

pub returns-then-s-gt4096 : goal.returns-then-s-gt4096
unfolding read_refusal first_of
returns-then-s-gt4096 c = sym (pick_yes _ _ _ (lt-ltb _ _ c.if-s-gt4096.true))

pub returns-then-is_list : goal.returns-then-is_list
unfolding read_refusal first_of
returns-then-is_list c =
    sym
    (pick_no _ _ _ (le-ltb _ _ c.if-s-gt4096.false)
    ∙ pick_no _ _ _ (ap not (sym c.is_list.ensures ∙ c.if-is_list.true)))

pub returns-else-is_list : goal.returns-else-is_list
unfolding read_refusal first_of
returns-else-is_list c =
    sym
    (pick_no _ _ _ (le-ltb _ _ c.if-s-gt4096.false)
    ∙ pick_yes _ _ _ (ap not (sym c.is_list.ensures ∙ c.if-is_list.false)))
