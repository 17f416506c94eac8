-- `start_fields::fields::decimal` meets its contract. The loop's invariant: the number so far, continued by what is left, is the
-- whole; and it stays below what as many bytes of halves 15 come to, three times which is 5 * 100 ^ i - 5. Assumes nothing.
use mathlib.Core.Path.{◌≡◌}
use Prim.Native.Nat.{◌+◌, ◌*◌, ◌^◌, ◌≤◌}
use lib.ListN.{drop}
use Rattle.decimal_dates.specs.Decimal.{decimal_from, decimal}
use Rattle.start_fields.proofs.fields.decimal.Given as goal

abbrev pub invariant-loop-b : goal.invariant-loop-b
invariant-loop-b l = (3 * l.n + 5 ≤ 5 * 100 ^ l.b-index) × (decimal_from l.n (drop l.b-index l.s) ≡ decimal l.s)
