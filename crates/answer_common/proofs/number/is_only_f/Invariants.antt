-- `answer_common::number::is_only_f` meets its contract. The loop's invariant: what is left decides as all from the place on do.
-- Assumes nothing.
use mathlib.Core.Path.{◌≡◌}
use lib.ListN.{drop}
use Rattle.answer_common.specs.CardNumber.{halves, only_f}
use Rattle.answer_common.proofs.number.is_only_f.Given as goal

abbrev pub invariant-loop-i : goal.invariant-loop-i
invariant-loop-i l = only_f (drop l.i (halves l.v)) ≡ only_f (drop l.from (halves l.v))
