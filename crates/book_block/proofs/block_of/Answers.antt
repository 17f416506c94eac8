-- `book_block::block_of` meets its contract: the head over zeros, the check of that, its bytes at the end. Assumes nothing.
use mathlib.Core.Path.{◌∙◌}
use Rattle.slices.specs.Writing.{zeros}
use Rattle.book_block.proofs.Filling.{filled}
use Rattle.book_block.proofs.block_of.Goals as goal

pub returns : goal.returns
unfolding zeros
returns c =
    c.lay-2.ensures
    ∙ filled c.args.n c.args.e _ _ _ _
    c.head_bytes.ensures
    c.lay.ensures
    c.of_block-check.ensures
    c.four_bytes.ensures
