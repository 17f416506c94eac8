-- `verify::verify` meets its contract. The loop's invariant: what is left from rule i on, with the bits so far, comes to what the
-- whole list comes to. Assumes nothing.
use mathlib.Core.Path.{◌≡◌}
use Prim.Native.Nat.{◌+◌, ◌*◌}
use lib.ListN.{drop}
use Rattle.cvm.specs.Verified.{verified_from, verified}
use Rattle.cvm.proofs.verify.verify.Given as goal

abbrev pub invariant-loop-i : goal.invariant-loop-i
invariant-loop-i l =
    verified_from l.c l.x l.y l.bits (drop (8 + 2 * l.i) l.list) (drop l.i l.results) ≡ verified l.c l.list l.results
