-- `list::rules_in` meets its contract: the definition's number. Assumes nothing.
use native.Mathlib.Omega.{arith}
use Rattle.cvm.specs.Lists.{rules_in}
use Rattle.cvm.proofs.list.rules_in.Goals as goal

pub returns : goal.returns
unfolding rules_in
returns c = omega arith
