-- `supply::format_of` meets its contract: each arm is a line of the tables of START and of the session, and any other tag is left to that
-- of the records.
-- Assumes nothing.
use mathlib.Core.Path.{sym, ap, ◌∙◌}
use mathlib.Core.List.{◌++◌, map}
use Rattle.slices.specs.Choice.{pick}
use Rattle.slices.specs.Tables.{beside}
use Rattle.slices.proofs.Tables.{beside_none}
use Rattle.answer_common.specs.Content.{record_formats}
use Rattle.answer_common.specs.declared.content.Format.TheVariants.{Unknown}
use Rattle.dol_values.specs.Shape.{own_table, made_formats, format_of}
use Rattle.dol_values.proofs.Tables.{beside_append}
use Rattle.dol_values.proofs.supply.format_of.Goals as goal

pub returns-in-40706 : goal.returns-in-40706
unfolding format_of beside pick
returns-in-40706 c = sym (ap format_of c.in-40706.is)

pub returns-in-40707 : goal.returns-in-40707
unfolding format_of beside pick
returns-in-40707 c = sym (ap format_of c.in-40707.is)

pub returns-in-40730 : goal.returns-in-40730
unfolding format_of beside pick
returns-in-40730 c = sym (ap format_of c.in-40730.is)

pub returns-in-24362 : goal.returns-in-24362
unfolding format_of beside pick
returns-in-24362 c = sym (ap format_of c.in-24362.is)

pub returns-in-154 : goal.returns-in-154
unfolding format_of beside pick
returns-in-154 c = sym (ap format_of c.in-154.is)

pub returns-in-156 : goal.returns-in-156
unfolding format_of beside pick
returns-in-156 c = sym (ap format_of c.in-156.is)

pub returns-in-40759 : goal.returns-in-40759
unfolding format_of beside pick
returns-in-40759 c = sym (ap format_of c.in-40759.is)

pub returns-in-40713 : goal.returns-in-40713
unfolding format_of beside pick
returns-in-40713 c = sym (ap format_of c.in-40713.is)

pub returns-in-40755 : goal.returns-in-40755
unfolding format_of beside pick
returns-in-40755 c = sym (ap format_of c.in-40755.is)

pub returns-in-149 : goal.returns-in-149
unfolding format_of beside pick
returns-in-149 c = sym (ap format_of c.in-149.is)

pub returns-in-155 : goal.returns-in-155
unfolding format_of beside pick
returns-in-155 c = sym (ap format_of c.in-155.is)

pub returns-in-138 : goal.returns-in-138
unfolding format_of beside pick
returns-in-138 c = sym (ap format_of c.in-138.is)

pub returns-in-130 : goal.returns-in-130
unfolding format_of beside pick
returns-in-130 c = sym (ap format_of c.in-130.is)

pub returns-in_default : goal.returns-in_default
unfolding format_of
returns-in_default c =
    let tag = c.args.tag in
    let rows = map (λ row. (row.0, row.1.1)) own_table ++ made_formats in
    c.format_told.ensures
    ∙ sym (beside_append Unknown tag rows record_formats
    ∙ beside_none (beside Unknown tag record_formats) tag rows c.in_default.in_default-own.rest)
