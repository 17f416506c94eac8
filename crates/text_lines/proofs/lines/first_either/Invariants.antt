-- `lines::first_either` meets its contract. The loop's invariant: from i on there are as many bytes less before the
-- first of the two as have been passed. Assumes nothing.
use mathlib.Core.Path.{◌≡◌}
use Prim.Native.Nat.{◌+◌}
use lib.ListN.{drop}
use Rattle.text_lines.specs.Lines.{before, Onward}
use Rattle.text_lines.proofs.lines.first_either.Given as goal

abbrev pub invariant-loop-i : goal.invariant-loop-i
invariant-loop-i l = (l.i + before l.a l.b (drop l.i l.s) ≡ l.at + before l.a l.b (drop l.at l.s)) × Onward l.s l.at l.i
