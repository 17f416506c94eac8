-- `tape_read::read::short_at` meets its contract: the two bytes are the field, the first of them worth 256.
-- Assumes nothing.
use native.Mathlib.Omega.{arith}
use Rattle.tape_read.specs.Numbers.{number_of}
use Rattle.tape_read.specs.Blocks.{window, field}
use Rattle.tape_read.proofs.read.short_at.Goals as goal

pub returns : goal.returns
unfolding field window number_of
returns c = (omega arith, omega arith)
