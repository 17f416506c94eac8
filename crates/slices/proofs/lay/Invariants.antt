-- `slices::lay` meets its contract. The loop's invariant: the first i bytes stand in their place, and the rest of the buffer is as it was.
-- Assumes nothing.
use mathlib.Core.Path.{◌≡◌}
use Prim.Native.Nat.{◌≤◌, ◌+◌}
use lib.ListN.{length}
use lib.Seq.{paste}
use Rattle.slices.proofs.lay.Given as goal

abbrev pub invariant-loop-i : goal.invariant-loop-i
invariant-loop-i l = (l.at + length l.s ≤ length l.initial.buf) × (length l.buf ≡ length l.initial.buf)
    × (l.buf ≡ paste l.initial.buf l.at l.s l.i)
