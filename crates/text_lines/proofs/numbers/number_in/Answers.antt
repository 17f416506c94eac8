-- `numbers::number_in` meets its contract. The loop's invariant: n continued by what is left of the text is the number
-- that the whole text starts with. Assumes nothing.
use mathlib.Core.Path.{refl, sym, ◌∙◌}
use Prim.Native.Nat.{◌*◌, ◌≤◌, zero-le}
use native.Mathlib.Nat.{mul-le-mul}
use native.Mathlib.Omega.{arith}
use Rattle.text_lines.proofs.Counting.{goes_on_lem, ends_here, all_read}
use Rattle.text_lines.proofs.numbers.number_in.Goals as goal

pub loop-b-init : goal.loop-b-init
loop-b-init c = (zero-le, refl)

pub returns-then-base-d : goal.returns-then-base-d
returns-then-base-d c =
    let a = c.args in
    let l = c.loop-b in (
      sym (sym l.invariant.1
          ∙ ends_here a.base a.most l.n a.s.now l.b-index _ c.digit_of-d.ensures.0 (omega arith) (λ h k. omega arith)),
      omega arith,
    )

pub overflow_mul-more : goal.overflow_mul-more
overflow_mul-more c =
    let small : c.args.base * c.loop-b.n ≤ 16 * c.args.most =
    mul-le-mul (omega arith) (omega arith)
    in
    let fits = small in omega arith

pub overflow_add-more : goal.overflow_add-more
overflow_add-more c =
    let small : c.args.base * c.loop-b.n ≤ 16 * c.args.most =
    mul-le-mul (omega arith) (omega arith)
    in
    let fits = small in omega arith

pub returns-then-most-more : goal.returns-then-most-more
returns-then-most-more c =
    let a = c.args in
    let l = c.loop-b in (
      sym (sym l.invariant.1
          ∙ ends_here a.base a.most l.n a.s.now l.b-index _ c.digit_of-d.ensures.0 (omega arith) (λ h k. omega arith)),
      omega
          arith,
    )

pub loop-b-preserved : goal.loop-b-preserved
loop-b-preserved c =
    let a = c.args in
    let l = c.loop-b in (
      omega arith,
      sym (goes_on_lem a.base a.most l.n a.s.now l.b-index _ c.digit_of-d.ensures.0 (omega arith) c.if-base-d.false
          c.if-most-more.false) ∙ l.invariant.1,
    )

pub returns : goal.returns
returns c =
    let a = c.args in
    let l = c.loop-b in
    (sym (sym l.invariant.1 ∙ all_read a.base a.most l.n a.s.now l.b-index (omega arith)), omega arith)
