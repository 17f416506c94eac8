-- `tape_crc::by_fours`, the loop's invariant: the register so far, taken over the bytes behind the fours that are passed, gives what the
-- whole gives. Assumes nothing.
use mathlib.Core.Path.{◌≡◌}
use Prim.Native.Nat.{◌*◌}
use lib.ListN.{drop}
use Rattle.tape_crc.specs.Check.{running_of}
use Rattle.tape_crc.proofs.by_fours.Given as goal

abbrev pub invariant-loop-k : goal.invariant-loop-k
invariant-loop-k l = running_of l.r (drop (4 * l.k) l.s) ≡ running_of l.register l.s
