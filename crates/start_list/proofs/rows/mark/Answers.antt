-- `rows::mark` meets its contract.
-- Assumes nothing.
use Rattle.start_list.specs.Rows.{mark_in}
use Rattle.start_list.proofs.rows.mark.Goals as goal

pub returns : goal.returns
unfolding mark_in
returns c = c.byte.ensures
