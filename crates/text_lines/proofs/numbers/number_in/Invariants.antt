-- `numbers::number_in` meets its contract. The loop's invariant: n continued by what is left of the text is the number
-- that the whole text starts with. Assumes nothing.
use mathlib.Core.Path.{◌≡◌}
use Prim.Native.Nat.{◌≤◌}
use lib.ListN.{drop}
use Rattle.text_lines.specs.Numbers.{continued}
use Rattle.text_lines.proofs.numbers.number_in.Given as goal

abbrev pub invariant-loop-b : goal.invariant-loop-b
invariant-loop-b l = (l.n ≤ l.most) × (continued l.base l.most l.n (drop l.b-index l.s) ≡ continued l.base l.most 0 l.s)
