-- `pieces::begin` meets its contract: both parts are as they begin.
-- Assumes nothing.
use Rattle.judge.proofs.pieces.begin.Goals as goal

pub returns : goal.returns
returns c = λ i. record { reader = c.begin.ensures i; dialogue = c.begin-2.ensures i }
