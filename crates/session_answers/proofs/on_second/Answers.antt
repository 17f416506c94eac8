-- `session_answers::on_second` meets its contract: a bad answer ends the session, and a good one decides it.
-- Assumes nothing.
use mathlib.Core.Path.{sym, ap, ◌∙◌}
use Prim.Native.Nat.{ℕ}
use Rattle.decide_cryptogram.specs.Cryptograms.{allowed_by}
use Rattle.decide_cryptogram.specs.declared.Request.TheVariants.{Second}
use Rattle.answer_cryptogram.specs.Cryptogram.{cryptogram_reason, cryptogram_of}
use Rattle.rulebook.specs.Phase.{decides, decided}
use Rattle.rulebook.specs.Turn.{by_second, second_answered, turn}
use Rattle.session_state.specs.Reading.{late}
use Rattle.session_moves.specs.Moves.{moved}
use Rattle.session_moves.proofs.Moving.{late_decided, late_refused, reason_next}
use Rattle.answer_laws.proofs.Reasons.{cryptogram_small}
use Rattle.session_answers.proofs.on_second.Goals as goal

pub returns-then-why-ne0 : goal.returns-then-why-ne0
unfolding turn second_answered
returns-then-why-ne0 c =
    let args = c.args in
    let s = args.s in
    let a = args.a.now in
    let allowed = allowed_by (Second args.request) in
    late_refused s args.buf.now c.cryptogram_reason-why.result (cryptogram_reason allowed a)
    (decided (by_second (cryptogram_of a)) (late s))
    c.cryptogram_reason-why.ensures (cryptogram_small allowed a) c.if-why-ne0.true c.end.ensures

pub returns : goal.returns
unfolding turn second_answered decided
returns c =
    let args = c.args in
    let s = args.s in
    let a = args.a.now in
    let buf = args.buf.now in
    let by = c.by_second in
    late_decided s buf by.result 0 c.decide.ensures
    ∙ (ap (λ (n : ℕ). moved (decides n 0 (late s)) s buf) (by.ensures ∙ ap by_second c.cryptogram.ensures)
    ∙ sym (reason_next c.cryptogram_reason-why.result (cryptogram_reason (allowed_by (Second args.request)) a) (late s)
    (decided (by_second (cryptogram_of a)) (late s)) s buf c.cryptogram_reason-why.ensures c.if-why-ne0.false))
