-- `answer_record::worse` meets its contract: the definition's own cases.
-- Assumes nothing.
use mathlib.Core.Path.{sym, ◌∙◌}
use borrow.Author.Tests.{eq-eqb, ne_eqb}
use Rattle.slices.proofs.Choice.{pick_yes, pick_no}
use Rattle.answer_record.specs.Taken.{worse}
use Rattle.answer_record.proofs.worse.Goals as goal

pub returns-then-again : goal.returns-then-again
unfolding worse
returns-then-again c = sym (pick_yes _ _ _ c.if-again.true)

pub returns-then-right : goal.returns-then-right
unfolding worse
returns-then-right c = sym (pick_no _ _ _ c.if-again.false ∙ pick_yes _ _ _ c.if-right.true)

pub returns-then-why-eq-FOR_TWICE : goal.returns-then-why-eq-FOR_TWICE
unfolding worse
returns-then-why-eq-FOR_TWICE c =
    sym
    (pick_no _ _ _ c.if-again.false
    ∙ (pick_no _ _ _ c.if-right.false ∙ pick_yes _ _ _ (eq-eqb _ 4 c.if-why-eq-FOR_TWICE.true)))

pub returns : goal.returns
unfolding worse
returns c =
    sym
    (pick_no _ _ _ c.if-again.false
    ∙ (pick_no _ _ _ c.if-right.false ∙ pick_no _ _ _ (ne_eqb _ 4 c.if-why-eq-FOR_TWICE.false)))
