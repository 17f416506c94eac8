-- `list::is_list`. The loop's invariant: the rest from `at` on is a list exactly where the whole is. The measure is the number of bytes,
-- which falls at each call, since a value is shorter than the object that holds it.
-- Assumes nothing.
use mathlib.Core.Path.{◌≡◌}
use Prim.Native.Nat.{◌≤◌, ◌-◌}
use lib.ListN.{length, drop}
use Rattle.tlv_list.specs.Objects.{is_list}
use Rattle.tlv_list.proofs.list.+is_list.Given as goal

abbrev pub decreases-is_list : goal.decreases-is_list
decreases-is_list l = length l.s.now

abbrev pub invariant-loop-at : goal.invariant-loop-at
invariant-loop-at l = (l.at ≤ length l.s) × (is_list (drop l.at l.s) ≡ is_list l.s)

abbrev pub decreases-loop-at : goal.decreases-loop-at
decreases-loop-at l = length l.s - l.at
