-- `answer_record::complete_reason` meets its contract: the two lines, one after the other.
-- Assumes nothing.
use mathlib.Core.Path.{sym, ap, ◌∙◌}
use mathlib.Core.Bool.{not}
use Rattle.answer_record.specs.Records.{incomplete, complete_reason, after_records}
use Rattle.dol_wanted.specs.Wanted.{fillable}
use Rattle.slices.proofs.Lines.{line_yes, line_no, last_no}
use Rattle.answer_record.proofs.complete_reason.Goals as goal

pub returns-then-any_untold : goal.returns-then-any_untold
unfolding after_records complete_reason incomplete
returns-then-any_untold c = sym (line_yes c.any_untold.ensures 8 _ c.if-any_untold.true)

pub returns-then-is_fillable : goal.returns-then-is_fillable
unfolding after_records complete_reason incomplete
returns-then-is_fillable c =
    sym (line_no c.any_untold.ensures 8 _ c.if-any_untold.false
    ∙ last_no (ap not (c.is_fillable.ensures ∙ ap fillable c.value.ensures)) 9 (ap not c.if-is_fillable.true))

pub returns-else-is_fillable : goal.returns-else-is_fillable
unfolding after_records complete_reason incomplete
returns-else-is_fillable c =
    sym (line_no c.any_untold.ensures 8 _ c.if-any_untold.false
    ∙ line_yes (ap not (c.is_fillable.ensures ∙ ap fillable c.value.ensures)) 9 _ (ap not c.if-is_fillable.false))
