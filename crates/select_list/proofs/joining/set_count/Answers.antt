-- `joining::set_count` meets its contract.
-- Assumes nothing.
use Rattle.select_list.specs.Steps.{counted}
use Rattle.select_list.proofs.joining.set_count.Goals as goal

pub returns : goal.returns
unfolding counted
returns c = c.lay.ensures
