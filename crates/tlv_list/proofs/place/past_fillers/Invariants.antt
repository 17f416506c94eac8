-- `place::past_fillers` meets its contract. The loop's invariant: from i on there are as many '00' bytes less as have been passed.
-- Assumes nothing.
use mathlib.Core.Path.{◌≡◌}
use Prim.Native.Nat.{◌+◌}
use lib.ListN.{drop}
use Rattle.tlv_list.specs.Place.{fillers}
use Rattle.tlv_list.proofs.place.past_fillers.Given as goal

abbrev pub invariant-loop-i : goal.invariant-loop-i
invariant-loop-i l = l.i + fillers (drop l.i l.s) ≡ l.at + fillers (drop l.at l.s)
