-- `lookup::first_from` meets its contract. The loop's invariant: the first with the tag from p on is the first from `at` on.
-- Assumes nothing.
use mathlib.Core.Path.{◌≡◌}
use Prim.Native.Nat.{◌-◌}
use lib.ListN.{length}
use Rattle.tlv_list.specs.Lookup.{first_from}
use Rattle.tlv_list.proofs.lookup.first_from.Given as goal

abbrev pub invariant-loop-t : goal.invariant-loop-t
invariant-loop-t l = first_from l.s l.p l.tag ≡ first_from l.s l.at l.tag

abbrev pub decreases-loop-t : goal.decreases-loop-t
decreases-loop-t l = length l.s - l.p
