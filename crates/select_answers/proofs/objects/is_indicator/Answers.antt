-- `objects::is_indicator` meets its contract.
-- Assumes nothing.
use mathlib.Core.Path.{sym, ap, ◌∙◌}
use mathlib.Core.List.{List}
use Prim.Native.Nat.{ℕ}
use lib.Dec.{eqb}
use lib.ListN.{length}
use borrow.Author.Tests.{eq-eqb}
use Rattle.answer_common.specs.Named.{standing}
use Rattle.select_answers.proofs.Values.{indicator_none, indicator_value}
use Rattle.select_answers.proofs.objects.is_indicator.Goals as goal

pub returns-then-times_in_checked-eq0 : goal.returns-then-times_in_checked-eq0
returns-then-times_in_checked-eq0 c =
    let s = c.args.s.now in
    eq-eqb _ _ c.if-times_in_checked-eq0.true ∙ indicator_none (standing s 0x87)
    (sym c.times_in_checked.ensures ∙ c.if-times_in_checked-eq0.true)

pub returns-else-times_in_checked-eq0 : goal.returns-else-times_in_checked-eq0
returns-else-times_in_checked-eq0 c =
    let s = c.args.s.now in
    let n = c.times_in_checked.ensures in
    ap (λ (v : List ℕ). eqb (length v) 1) c.value_in_checked.ensures
    ∙ indicator_value (standing s 0x87) (λ z. c.if-times_in_checked-eq0.false (n ∙ z))
