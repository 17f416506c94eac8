-- `walk` meets its contract. The loop's invariant: the levels that are left, counted as the definition counts them, give what
-- all of them give; and the level at hand reaches no further than it can.
-- Assumes nothing.
use mathlib.Core.Path.{◌≡◌}
use Prim.Native.Nat.{◌-◌}
use lib.ListN.{length}
use Rattle.atr_characters.specs.Data.{data_of}
use Rattle.atr_characters.specs.Levels.{walked, interface_of}
use Rattle.atr_characters.proofs.Reach.{Reaches}
use Rattle.atr_characters.proofs.walk.Given as goal

abbrev pub invariant-loop : goal.invariant-loop
invariant-loop l =
    let s = data_of l.inverse l.capture in
    Reaches s l.l × (walked (length s - l.index) s l.l l.other ≡ interface_of s)
