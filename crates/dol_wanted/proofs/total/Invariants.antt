-- `dol_wanted::total` meets its contract. The loop's invariant: the count so far, counted on over the rest, is the list's.
-- Assumes nothing.
use mathlib.Core.Path.{◌≡◌}
use Prim.Native.Nat.{◌≤◌}
use lib.ListN.{length}
use Rattle.dol_wanted.specs.Wanted.{entries_of, most, tally}
use Rattle.dol_wanted.proofs.Entries.{counted_on}
use Rattle.dol_wanted.proofs.total.Given as goal

abbrev pub invariant-loop-rest : goal.invariant-loop-rest
invariant-loop-rest l = (l.sum ≤ most) × (counted_on l.sum (entries_of l.rest) ≡ tally l.list)

abbrev pub decreases-loop-rest : goal.decreases-loop-rest
decreases-loop-rest l = length l.rest
