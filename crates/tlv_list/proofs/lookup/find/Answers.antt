-- `lookup::find` meets its contract: the list check's refusal, and then the look-up in checked bytes.
-- Assumes nothing.
use mathlib.Core.Path.{sym, ap, ◌∙◌}
use borrow.Author.Tests.{eq-eqb, ne_eqb}
use Rattle.slices.proofs.Choice.{pick_yes, pick_no}
use Rattle.tlv_list.specs.Lookup.{seek}
use Rattle.std.specs.Prelude.{Some}
use Rattle.tlv_list.proofs.lookup.find.Goals as goal

pub returns-then-list_refusal-eq-REFUSED_READING : goal.returns-then-list_refusal-eq-REFUSED_READING
unfolding seek
returns-then-list_refusal-eq-REFUSED_READING c = sym
    (pick_yes _ _ _ (eq-eqb _ _ (sym c.list_refusal.ensures ∙ c.if-list_refusal-eq-REFUSED_READING.true)))

pub returns : goal.returns
unfolding seek
returns c =
    ap Some c.find_in_checked.ensures
    ∙ sym (pick_no _ _ _ (ne_eqb _ _ (λ e. c.if-list_refusal-eq-REFUSED_READING.false (c.list_refusal.ensures ∙ e))))
