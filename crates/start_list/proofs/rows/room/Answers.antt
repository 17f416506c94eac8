-- `rows::room` meets its contract.
-- Assumes nothing.
use Rattle.start_list.specs.Rows.{room_in}
use Rattle.start_list.proofs.rows.room.Goals as goal

pub returns : goal.returns
unfolding room_in
returns c = c.part.ensures
