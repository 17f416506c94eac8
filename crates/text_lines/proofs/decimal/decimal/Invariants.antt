-- `decimal::decimal` meets its contract. The loop's invariant: n with the digits that are left is the number of the whole text.
-- Assumes nothing.
use mathlib.Core.Path.{◌≡◌}
use Prim.Native.Nat.{◌<◌}
use lib.ListN.{drop}
use Rattle.text_lines.specs.Decimal.{number_from, no_number}
use Rattle.text_lines.proofs.decimal.decimal.Given as goal

abbrev pub invariant-loop-b : goal.invariant-loop-b
invariant-loop-b l = (l.n < no_number) × (number_from l.n (drop l.b-index l.s) ≡ number_from 0 l.s)
