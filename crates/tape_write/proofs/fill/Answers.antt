-- `tape_write::fill` meets its contract: the check of a block that lacks only its check is that of the body, and with it
-- the block is whole. Assumes nothing.
use mathlib.Core.Path.{◌∙◌}
use Rattle.tape_read.specs.Entries.{entry}
use Rattle.tape_write.proofs.Filling.{filled}
use Rattle.tape_write.proofs.fill.Goals as goal

pub returns : goal.returns
returns c =
    let a = c.args in
    c.lay.ensures
    ∙ filled a.number a.session (entry a.kind a.payload.now) a.block.now c.requires.1 c.requires.0 _ _ _
    c.lay_body.ensures
    c.of_block-check.ensures
    c.four_bytes.ensures
