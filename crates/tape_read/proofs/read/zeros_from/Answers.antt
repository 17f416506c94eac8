-- `tape_read::read::zeros_from` meets its contract: the part of the block that is tested is the window that the contract speaks of, as
-- far as
-- it is there.
-- Assumes nothing.
use mathlib.Core.Path.{ap, ◌∙◌}
use Prim.Native.Nat.{◌-◌}
use Rattle.tape_crc.specs.Check.{covered}
use Rattle.tape_read.specs.Blocks.{all_zero}
use Rattle.tape_read.proofs.Windows.{window_zero}
use Rattle.tape_read.proofs.read.zeros_from.Goals as goal

pub returns : goal.returns
returns c =
    let a = c.args in
    c.is_zero.ensures ∙ (ap all_zero c.part.ensures ∙ window_zero (covered - a.from) a.from a.block.now)
