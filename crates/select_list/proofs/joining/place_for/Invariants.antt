-- `joining::place_for` meets its contract. The loop's invariant: so many do not stand behind it, and the rest decides.
-- Assumes nothing.
use mathlib.Core.Path.{◌≡◌}
use Prim.Native.Nat.{◌+◌}
use lib.ListN.{drop}
use Rattle.select_list.specs.Kept.{list_in}
use Rattle.select_list.specs.Steps.{place_for}
use Rattle.select_list.proofs.joining.place_for.Given as goal

abbrev pub invariant-loop-i : goal.invariant-loop-i
invariant-loop-i l =
    place_for l.standing (list_in l.list) ≡ l.i + place_for l.standing (drop l.i (list_in l.list))
