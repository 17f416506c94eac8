-- `runs::keep` meets its contract: the bytes are laid at the start of a run of zeros.
-- Assumes nothing.
use lib.ListN.{length}
use mathlib.Core.Bool.{true}
use mathlib.Core.Path.{ap}
use Rattle.slices.specs.Writing.{zeros}
use Rattle.session_records.specs.Runs.{kept_run}
use Rattle.session_records.proofs.runs.keep.Goals as goal

pub returns : goal.returns
unfolding kept_run zeros
returns c =
    let s = c.args.s.now in
    ap (λ b. record { bytes = b; len = length s; there = true }) c.lay.ensures
