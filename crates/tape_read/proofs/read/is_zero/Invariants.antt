-- `tape_read::read::is_zero`, the loop's invariant: the bytes so far, joined bit by bit, are zero and so is what is left, exactly where
-- all of it is. Assumes nothing.
use mathlib.Core.Path.{◌≡◌}
use mathlib.Core.Bool.{◌&&◌}
use lib.Dec.{eqb}
use lib.ListN.{drop}
use Rattle.tape_read.specs.Blocks.{all_zero}
use Rattle.tape_read.proofs.read.is_zero.Given as goal

abbrev pub invariant-loop-b : goal.invariant-loop-b
invariant-loop-b l = (eqb l.bits 0 && all_zero (drop l.b-index l.s)) ≡ all_zero l.s
