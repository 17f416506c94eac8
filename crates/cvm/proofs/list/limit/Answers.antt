-- `list::limit` meets its contract: the four bytes, each with its weight. Assumes nothing.
use native.Mathlib.Omega.{arith}
use Rattle.cvm.specs.Lists.{limit_of}
use Rattle.cvm.proofs.list.limit.Goals as goal

pub returns : goal.returns
unfolding limit_of
returns c = omega arith
