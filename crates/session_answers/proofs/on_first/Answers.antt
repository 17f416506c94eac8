-- `session_answers::on_first` meets its contract: a bad answer ends the session, and an allowed one sets a bit of the TSI.
-- Assumes nothing.
use mathlib.Core.Path.{◌≡◌, refl, sym, ap, ◌∙◌}
use Rattle.decide_cryptogram.specs.Cryptograms.{allowed_by}
use Rattle.decide_cryptogram.specs.Cryptograms.{Given}
use Rattle.decide_cryptogram.specs.declared.Request.TheVariants.{First}
use Rattle.answer_cryptogram.specs.Cryptogram.{cryptogram_reason, cryptogram_of}
use Rattle.rulebook.specs.Situation.{Situation}
use Rattle.rulebook.specs.Turn.{answered, by_first, first_answered, turn}
use Rattle.session_state.specs.declared.State.{State}
use Rattle.session_state.specs.Keeping.{changed}
use Rattle.session_state.specs.Reading.{situation_with, late}
use Rattle.session_moves.specs.Moves.{moved}
use Rattle.session_answers.specs.Keeping.{answered_state}
use Rattle.decide_tvr.specs.Results.{tsi_after_first_answer}
use Rattle.session_moves.proofs.Moving.{late_refused, reason_next}
use Rattle.session_moves.proofs.Bits.{bits_moved}
use Rattle.answer_laws.proofs.Reasons.{cryptogram_small}
use Rattle.session_answers.proofs.on_first.Goals as goal

-- an allowed first answer, stored and read back
late_answered : (s : State) → late (answered_state s) ≡ answered (late s)
unfolding late situation_with answered_state changed answered
late_answered s = refl

pub returns-then-reason-ne0 : goal.returns-then-reason-ne0
unfolding turn first_answered
returns-then-reason-ne0 c =
    let args = c.args in
    let s = args.s in
    let a = args.a.now in
    let allowed = allowed_by (First args.request) in
    late_refused s args.buf.now c.cryptogram_reason-reason.result (cryptogram_reason allowed a)
    (by_first (cryptogram_of a) (answered (late s)))
    c.cryptogram_reason-reason.ensures (cryptogram_small allowed a) c.if-reason-ne0.true c.end.ensures

pub returns : goal.returns
unfolding turn first_answered answered_state
returns c =
    let args = c.args in
    let s = args.s in
    let a = args.a.now in
    let buf = args.buf.now in
    let n = cryptogram_of a in
    let t = answered_state s in
    c.by_first.ensures
    ∙ (ap (λ (x : State). moved (by_first c.cryptogram.result (late x)) x buf) c.after_first-answered.ensures
    ∙ (ap (λ (g : Given). moved (by_first g (late t)) t buf) c.cryptogram.ensures
    ∙ (bits_moved (by_first n (late t)) s.waiting s.tvr (tsi_after_first_answer s.tsi) s buf
    ∙ (ap (λ (z : Situation). moved (by_first n z) s buf) (late_answered s)
    ∙ sym
    (reason_next c.cryptogram_reason-reason.result (cryptogram_reason (allowed_by (First args.request)) a) (late s)
    (by_first n (answered (late s))) s buf c.cryptogram_reason-reason.ensures c.if-reason-ne0.false)))))
