-- `shape::shape` meets its contract: by the format.
-- Assumes nothing.
use mathlib.Core.Path.{sym, ap, ◌∙◌}
use lib.ListN.{length}
use Rattle.slices.specs.Writing.{zeros}
use Rattle.dol_values.specs.Shape.{shaped}
use Rattle.answer_common.specs.declared.content.Format.{Format}
use Rattle.dol_values.proofs.shape.shape.Goals as goal

pub returns-in-Numeric : goal.returns-in-Numeric
returns-in-Numeric c =
    let a = c.args in
    c.at_right_end.ensures
    ∙ ap (λ (f : Format). shaped f (length a.part.now) a.v.now) (sym c.in-Numeric.is)

pub returns-in-CardNumber : goal.returns-in-CardNumber
unfolding shaped
returns-in-CardNumber c =
    let a = c.args in
    c.at_left_end.ensures
    ∙ ap (λ (f : Format). shaped f (length a.part.now) a.v.now) (sym c.in-CardNumber.is)

pub returns-in-Other : goal.returns-in-Other
unfolding shaped zeros
returns-in-Other c =
    let a = c.args in
    c.at_left_end-in-Other.ensures
    ∙ ap (λ (f : Format). shaped f (length a.part.now) a.v.now) (sym c.in-Other.is)

pub returns-in-Unknown : goal.returns-in-Unknown
unfolding shaped zeros
returns-in-Unknown c =
    let a = c.args in
    c.blank.ensures
    ∙ ap (λ (f : Format). shaped f (length a.part.now) a.v.now) (sym c.in-Unknown.is)
