-- `answer_common::number::is_only_f` meets its contract. The loop's invariant: what is left decides as all from the place on do.
-- Assumes nothing.
use mathlib.Core.Path.{sym, ◌∙◌}
use native.Mathlib.Omega.{arith}
use lib.Dec.{eqb}
use borrow.Author.Tests.{eq-eqb, ne_eqb}
use Rattle.slices.proofs.Tests.{all_one_on, all_but_one, all_through}
use Rattle.answer_common.specs.CardNumber.{halves, only_f}
use Rattle.answer_common.proofs.CardNumber.{halves_length}
use Rattle.answer_common.proofs.number.is_only_f.Goals as goal

pub loop-i-preserved : goal.loop-i-preserved
unfolding only_f
loop-i-preserved c =
    let v = c.args.v.now in
    let l = c.loop-i in
    let size = halves_length v in
    let filler = eq-eqb 0xF _ (sym (sym c.half.ensures ∙ c.if-half-ne15.false)) in
    sym (all_one_on (eqb 0xF) (halves v) l.i (omega arith) filler) ∙ l.invariant

pub returns-then-half-ne15 : goal.returns-then-half-ne15
unfolding only_f
returns-then-half-ne15 c =
    let v = c.args.v.now in
    let l = c.loop-i in
    let size = halves_length v in
    let other = ne_eqb 0xF _ (λ e. c.if-half-ne15.true (c.half.ensures ∙ sym e)) in
    sym (all_but_one (eqb 0xF) (halves v) l.i (omega arith) other) ∙ l.invariant

pub returns : goal.returns
unfolding only_f
returns c =
    let v = c.args.v.now in
    let size = halves_length v in
    sym (all_through (eqb 0xF) (halves v) c.loop-i.i (omega arith)) ∙ c.loop-i.invariant
