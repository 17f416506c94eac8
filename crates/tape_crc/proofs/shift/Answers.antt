-- `tape_crc::shift` meets its contract: the choice of the rule as a product. Assumes nothing.
use mathlib.Core.Path.{sym}
use Rattle.tape_crc.specs.Check.{divisor}
use Rattle.tape_crc.proofs.Division.{shifted_times}
use Rattle.tape_crc.proofs.shift.Goals as goal

pub returns : goal.returns
unfolding divisor
returns c = sym (shifted_times c.args.r)
