-- `is_too_long` meets its contract: its tests are the definition's.
-- Assumes nothing.
use mathlib.Core.Path.{sym, ◌∙◌}
use native.Mathlib.Omega.{arith}
use borrow.Author.Tests.{lt-ltb, ne_eqb}
use Rattle.tape_feed.proofs.Turns.{long_blocks, short_blocks, most_blocks}
use Rattle.tape_feed.proofs.is_too_long.Goals as goal

pub returns-then-end-gt-BLOCKS : goal.returns-then-end-gt-BLOCKS
returns-then-end-gt-BLOCKS c =
    let long = c.if-end-gt-BLOCKS.true in
    lt-ltb _ _ long ∙ sym (long_blocks c.args.end long)

pub returns-then-end-eq-BLOCKS : goal.returns-then-end-eq-BLOCKS
returns-then-end-eq-BLOCKS c = sym (most_blocks c.args.end (omega arith) (omega arith))

pub returns-else-end-eq-BLOCKS : goal.returns-else-end-eq-BLOCKS
returns-else-end-eq-BLOCKS c =
    let other = c.if-end-eq-BLOCKS.false in
    ne_eqb _ _ other ∙ sym (short_blocks c.args.end (omega (arith, other)))
