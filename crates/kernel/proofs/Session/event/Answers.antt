-- `Session::event` meets its contract: the call is turned away, closes the session, or is the session's step.
-- Assumes nothing.
use Rattle.tape_read.specs.Entries.{entry}
use Rattle.kernel.proofs.Answering.{away, closes, steps}
use Rattle.kernel.proofs.Session.event.Goals as goal

pub returns-then-why-ne0 : goal.returns-then-why-ne0
returns-then-why-ne0 c =
    let args = c.args in
    away args.self (entry args.kind args.payload.now) args.command.now c.refusal-why.ensures
    c.turn_away.result c.if-why-ne0.true c.turn_away.ensures

pub returns-then-kind-eq-SILENCE : goal.returns-then-kind-eq-SILENCE
returns-then-kind-eq-SILENCE c =
    let args = c.args in
    closes args.self (entry args.kind args.payload.now) args.command.now c.refusal-why.ensures
    c.close.result c.if-why-ne0.false c.if-kind-eq-SILENCE.true c.close.ensures

pub returns : goal.returns
returns c =
    let args = c.args in
    steps args.self (entry args.kind args.payload.now) args.command.now
    c.refusal-why.ensures
    c.accept.result c.step.result _ c.if-why-ne0.false
    c.if-kind-eq-SILENCE.false
    c.accept.ensures c.step.ensures
