-- `answer_common::answer::outer` meets its contract. The size is tested first, so the data is short enough for the list check.
-- Assumes nothing.
use mathlib.Core.Path.{sym, ap, ◌∙◌}
use mathlib.Core.List.{List}
use Prim.Native.Nat.{ℕ}
use Rattle.tlv_list.specs.Objects.{objects}
use Rattle.answer_common.specs.Answer.{only, the_one}
use Rattle.answer_common.proofs.Outer.{outer_refused, outer_looked, data_short}
use Rattle.answer_common.proofs.answer.outer.Goals as goal

pub returns-then-is_size_bad : goal.returns-then-is_size_bad
unfolding the_one
returns-then-is_size_bad c = sym (outer_refused c.args.answer.now (sym c.is_size_bad.ensures ∙ c.if-is_size_bad.true))

pub only-requires : goal.only-requires
only-requires c =
    let a = c.args.answer.now in
    rw c.data_field.ensures (data_short a (sym c.is_size_bad.ensures ∙ c.if-is_size_bad.false))

pub returns : goal.returns
returns c =
    let a = c.args.answer.now in
    let d = c.data_field.ensures in
    ap (λ (s : List ℕ). the_one s c.only.result) (sym d)
    ∙ (c.only.ensures
    ∙ (ap (λ (s : List ℕ). only (objects s)) d
    ∙ sym (outer_looked a (sym c.is_size_bad.ensures ∙ c.if-is_size_bad.false))))
