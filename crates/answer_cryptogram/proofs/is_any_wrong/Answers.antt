-- `answer_cryptogram::is_any_wrong` meets its contract: the four values, one after the other.
-- Assumes nothing.
use mathlib.Core.Path.{sym, ◌∙◌}
use Rattle.answer_common.proofs.Any.{any_yes, any_no, any_last}
use Rattle.answer_cryptogram.proofs.is_any_wrong.Goals as goal

pub returns-then-is_wrong : goal.returns-then-is_wrong
returns-then-is_wrong c = sym (any_yes c.is_wrong.ensures _ c.if-is_wrong.true)

pub returns-then-is_wrong-2 : goal.returns-then-is_wrong-2
returns-then-is_wrong-2 c =
    sym (any_no c.is_wrong.ensures _ c.if-is_wrong.false ∙ any_yes c.is_wrong-2.ensures _ c.if-is_wrong-2.true)

pub returns-then-is_wrong-3 : goal.returns-then-is_wrong-3
returns-then-is_wrong-3 c =
    sym
    (any_no c.is_wrong.ensures _ c.if-is_wrong.false
    ∙ (any_no c.is_wrong-2.ensures _ c.if-is_wrong-2.false ∙ any_yes c.is_wrong-3.ensures _ c.if-is_wrong-3.true))

pub returns : goal.returns
returns c =
    sym
    (any_no c.is_wrong.ensures _ c.if-is_wrong.false
    ∙ (any_no c.is_wrong-2.ensures _ c.if-is_wrong-2.false
    ∙ (any_no c.is_wrong-3.ensures _ c.if-is_wrong-3.false ∙ any_last c.is_wrong-4.ensures)))
