-- `answer_common::number::digits` meets its contract. The loop's invariant: the digits passed and those that follow are the digits
-- at the front. Assumes nothing.
use native.Mathlib.Omega.{arith}
use Rattle.answer_common.specs.CardNumber.{halves}
use Rattle.answer_common.proofs.CardNumber.{halves_length, digit_on, digit_stop, digit_end}
use Rattle.answer_common.proofs.number.digits.Goals as goal

pub loop-i-preserved : goal.loop-i-preserved
loop-i-preserved c =
    let v = c.args.v.now in
    let i = c.loop-i.i in
    let size = halves_length v in
    let half = c.half.ensures in
    let on = digit_on (halves v) i (omega arith) (omega arith) in
    omega arith

pub returns-then-half-gt9 : goal.returns-then-half-gt9
returns-then-half-gt9 c =
    let v = c.args.v.now in
    let i = c.loop-i.i in
    let size = halves_length v in
    let half = c.half.ensures in
    let stop = digit_stop (halves v) i (omega arith) (omega arith) in
    omega arith

pub returns : goal.returns
returns c =
    let v = c.args.v.now in
    let size = halves_length v in
    let end = digit_end (halves v) c.loop-i.i (omega arith) in
    omega arith
