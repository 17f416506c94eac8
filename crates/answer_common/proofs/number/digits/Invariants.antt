-- `answer_common::number::digits` meets its contract. The loop's invariant: the digits passed and those that follow are the digits
-- at the front. Assumes nothing.
use mathlib.Core.Path.{◌≡◌}
use Prim.Native.Nat.{◌+◌}
use lib.ListN.{drop}
use Rattle.answer_common.specs.CardNumber.{halves, digits}
use Rattle.answer_common.proofs.number.digits.Given as goal

abbrev pub invariant-loop-i : goal.invariant-loop-i
invariant-loop-i l = l.i + digits (drop l.i (halves l.v)) ≡ digits (halves l.v)
