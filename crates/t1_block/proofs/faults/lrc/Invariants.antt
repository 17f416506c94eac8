-- `faults::lrc` meets its contract. The loop's invariant: what is joined so far, with the bytes that are left, gives what the whole
-- gives. Assumes nothing.
use Rattle.std.proofs.Common.{◌≡◌, drop}
use Rattle.atr_characters.specs.Data.{joined_from}
use Rattle.t1_block.proofs.faults.lrc.Given as goal

abbrev pub invariant-loop-b : goal.invariant-loop-b
invariant-loop-b l = joined_from l.x (drop l.b-index l.s) ≡ joined_from 0 l.s
