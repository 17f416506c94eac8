-- `slots::cell` meets its contract.
-- Assumes nothing.
use mathlib.Core.Path.{ap, ◌∙◌}
use Rattle.session_records.specs.Slots.{cell_in}
use Rattle.session_records.proofs.slots.cell.Goals as goal

pub returns : goal.returns
unfolding cell_in
returns c = c.part.ensures ∙ ap (cell_in c.args.d.now) c.slot_of-slot.ensures.0
