-- `tape_crc::of_block` meets its contract: a part from the start is what the definition takes.
-- Assumes nothing.
use mathlib.Core.Path.{ap, ◌∙◌}
use Rattle.tape_crc.specs.Check.{check_of, block_check_of}
use Rattle.tape_crc.proofs.of_block.Goals as goal

pub returns : goal.returns
unfolding block_check_of
returns c = c.whole.ensures ∙ ap check_of c.part.ensures
