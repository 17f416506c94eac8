-- `tape_crc::by_bytes`, the loop's invariant: the register so far, taken over the bytes that are left, gives what the whole gives.
-- Assumes nothing.
use mathlib.Core.Path.{◌≡◌}
use lib.ListN.{drop}
use Rattle.tape_crc.specs.Check.{running_of}
use Rattle.tape_crc.proofs.by_bytes.Given as goal

abbrev pub invariant-loop-b : goal.invariant-loop-b
invariant-loop-b l = running_of l.r (drop l.b-index l.s) ≡ running_of l.register l.s
