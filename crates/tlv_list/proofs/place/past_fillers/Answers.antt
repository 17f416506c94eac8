-- `place::past_fillers` meets its contract. The loop's invariant: from i on there are as many '00' bytes less as have been passed.
-- Assumes nothing.
use Rattle.tlv_list.proofs.Fillers.{fillers_pass, fillers_stop, fillers_end}
use native.Mathlib.Omega.{arith}
use Rattle.tlv_list.proofs.place.past_fillers.Goals as goal

pub returns-then-s-i-ne0 : goal.returns-then-s-i-ne0
returns-then-s-i-ne0 c =
    let stop = fillers_stop c.args.s.now c.loop-i.i (omega arith) c.if-s-i-ne0.true in
    (omega arith, omega arith)

pub loop-i-preserved : goal.loop-i-preserved
loop-i-preserved c =
    let pass = fillers_pass c.args.s.now c.loop-i.i (omega arith) c.if-s-i-ne0.false in
    omega arith

pub returns : goal.returns
returns c =
    let end = fillers_end c.args.s.now c.loop-i.i (omega arith) in
    (omega arith, omega arith)
