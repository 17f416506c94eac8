-- `answer_record::take_all` meets its contract. The loop's invariant: what is taken from p on, after what is taken already, is all.
-- Assumes nothing.
use mathlib.Core.Path.{◌≡◌}
use Prim.Native.Nat.{◌-◌}
use lib.ListN.{length}
use Rattle.answer_record.specs.Taken.{taken, taken_from}
use Rattle.answer_record.proofs.take_all.Given as goal

abbrev pub invariant-loop-p : goal.invariant-loop-p
invariant-loop-p l =
    (length l.told ≡ length l.initial.told) × (taken_from l.names l.s l.p (taken l.why l.told)
    ≡ taken_from l.names l.s 0 (taken 0 l.initial.told))

abbrev pub decreases-loop-p : goal.decreases-loop-p
decreases-loop-p l = length l.s - l.p
