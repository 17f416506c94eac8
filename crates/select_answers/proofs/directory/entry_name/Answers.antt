-- `directory::entry_name` meets its contract.
-- Assumes nothing.
use Rattle.select_answers.specs.Directory.{entry_name}
use Rattle.select_answers.proofs.directory.entry_name.Goals as goal

pub returns : goal.returns
unfolding entry_name
returns c = c.value_in_checked.ensures
