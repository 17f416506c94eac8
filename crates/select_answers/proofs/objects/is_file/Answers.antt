-- `objects::is_file` meets its contract.
-- Assumes nothing.
use mathlib.Core.Path.{sym, ap, ◌∙◌}
use mathlib.Core.List.{List}
use Prim.Native.Nat.{ℕ}
use lib.Dec.{eqb}
use lib.ListN.{length, get_or}
use borrow.Author.Tests.{eq-eqb, ne_eqb}
use Rattle.slices.specs.Tests.{between}
use Rattle.slices.proofs.Tests.{held, failed, last}
use Rattle.select_answers.proofs.Values.{file_value}
use Rattle.select_answers.proofs.objects.is_file.Goals as goal

pub returns-then-v-ne1 : goal.returns-then-v-ne1
returns-then-v-ne1 c =
    let size = ap (λ (v : List ℕ). eqb (length v) 1) c.value_in_checked-v.ensures in
    let not' = ne_eqb _ _ c.if-v-ne1.true in
    sym not' ∙ (sym (failed size _ not') ∙ file_value _)

pub returns : goal.returns
returns c =
    let size = ap (λ (v : List ℕ). eqb (length v) 1) c.value_in_checked-v.ensures in
    let number =
    c.between.ensures
    ∙ (ap (between 1 10) c.byte.ensures.0 ∙ ap (λ (v : List ℕ). between 1 10 (get_or v 0 0)) c.value_in_checked-v.ensures)
    in
    sym (last number) ∙ (sym (held size _ (eq-eqb _ _ c.if-v-ne1.false)) ∙ file_value _)
