-- `quick_check::first_bad` meets its contract. The loop's invariant: what is said of the blocks from k on is what is said of all.
-- Assumes nothing.
use mathlib.Core.Path.{◌≡◌}
use Prim.Native.Nat.{◌*◌}
use lib.ListN.{drop}
use Rattle.tape_read.specs.Entries.{block_size}
use Rattle.tape_read.specs.Tapes.{read_from}
use Rattle.quick_check.specs.Damages.{damage_said}
use Rattle.quick_check.proofs.first_bad.Given as goal

abbrev pub invariant-loop-k : goal.invariant-loop-k
invariant-loop-k l =
    damage_said (read_from l.k l.due (drop (l.k * block_size) l.tape)) ≡ damage_said (read_from 0 l.due l.tape)
