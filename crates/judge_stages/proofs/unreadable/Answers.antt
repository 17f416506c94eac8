-- `judge_stages::unreadable` meets its contract: the answer says that verdict.
-- Assumes nothing.
use Rattle.judge_stages.proofs.unreadable.Goals as goal

pub returns : goal.returns
returns c = c.ruling.ensures
