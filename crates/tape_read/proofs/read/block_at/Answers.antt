-- `tape_read::read::block_at` meets its contract: an index past the whole blocks starts past the end, where nothing is.
-- Assumes nothing.
use mathlib.Core.Path.{sym, ap, ◌∙◌}
use Prim.Native.Nat.{◌*◌}
use native.Mathlib.Omega.{arith}
use lib.ListN.{take, drop_of_length-le}
use lib.Seq.{take-nil}
use Rattle.tape_read.specs.Entries.{block_size}
use Rattle.tape_read.specs.Tapes.{block_at}
use Rattle.tape_read.proofs.read.block_at.Goals as goal

pub returns-then-tape-index : goal.returns-then-tape-index
unfolding block_at
returns-then-tape-index c =
    let a = c.args in
    sym (ap (take block_size) (drop_of_length-le a.tape.now {i = a.index * block_size} (omega arith)) ∙ take-nil block_size)

pub returns : goal.returns
unfolding block_at
returns c = c.part.ensures
