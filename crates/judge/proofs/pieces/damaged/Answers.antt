-- `pieces::damaged` meets its contract: it says so, and counts nothing.
-- Assumes nothing.
use mathlib.Core.Path.{ap}
use Rattle.verdict.specs.Saying.{finds}
use Rattle.verdict.specs.declared.Ruling.{Ruling}
use Rattle.judge.proofs.pieces.damaged.Goals as goal

pub returns : goal.returns
returns c = ap (λ (a : Ruling). finds a 0) c.unreadable.ensures
