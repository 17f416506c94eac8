-- `answer_common::number::half` meets its contract: the upper half at even places, the lower at the others.
-- Assumes nothing.
use mathlib.Core.Path.{ap, ◌∙◌}
use Prim.Native.Nat.{ℕ, ◌/◌, ◌%◌}
use Rattle.answer_common.proofs.CardNumber.{upper, lower}
use Rattle.answer_common.proofs.number.half.Goals as goal

pub returns-then-i-eq0 : goal.returns-then-i-eq0
returns-then-i-eq0 c =
    let a = c.args in
    ap (λ (b : ℕ). b / 16) c.byte-b.ensures.0 ∙ upper a.v.now a.i c.if-i-eq0.true

pub returns-else-i-eq0 : goal.returns-else-i-eq0
returns-else-i-eq0 c =
    let a = c.args in
    ap (λ (b : ℕ). b % 16) c.byte-b.ensures.0 ∙ lower a.v.now a.i c.if-i-eq0.false
