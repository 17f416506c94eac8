-- `fresh` meets its contract: nothing sent, nothing received. Assumes nothing.
use Rattle.slices.specs.Writing.{zeros}
use Rattle.t1.specs.Steps.{fresh_end}
use Rattle.t1.proofs.fresh.Goals as goal

pub returns : goal.returns
unfolding fresh_end zeros
returns c = cc
