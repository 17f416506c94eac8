-- `slots::has` meets its contract.
-- Assumes nothing.
use mathlib.Core.Path.{ap, ◌∙◌}
use mathlib.Core.Bool.{not}
use lib.Dec.{eqb}
use Rattle.slices.specs.Tests.{is_some}
use Rattle.session_records.specs.Slots.{read, told_in}
use Rattle.session_records.proofs.Cells.{read_has}
use Rattle.session_records.proofs.slots.has.Goals as goal

pub returns : goal.returns
unfolding told_in
returns c =
    ap (λ n. not (eqb n 0)) c.byte.ensures.0
    ∙ (read_has c.cell.result.now
    ∙ ap (λ l. is_some (read l)) c.cell.ensures)
