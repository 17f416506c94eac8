-- `directory::entry_indicator` meets its contract.
-- Assumes nothing.
use Rattle.select_answers.specs.Directory.{entry_indicator}
use Rattle.select_answers.proofs.directory.entry_indicator.Goals as goal

pub returns : goal.returns
unfolding entry_indicator
returns c = c.indicator.ensures
