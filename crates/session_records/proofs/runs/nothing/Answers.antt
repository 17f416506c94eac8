-- `runs::nothing` meets its contract: it makes the definition's run.
-- Assumes nothing.
use mathlib.Core.Path.{refl}
use Rattle.slices.specs.Writing.{zeros}
use Rattle.session_records.specs.Runs.{no_run}
use Rattle.session_records.proofs.runs.nothing.Goals as goal

pub returns : goal.returns
unfolding no_run zeros
returns c = refl
