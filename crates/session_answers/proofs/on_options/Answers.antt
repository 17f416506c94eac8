-- `session_answers::on_options` meets its contract: a bad answer ends the session, and what a good one tells is kept.
-- Assumes nothing.
use mathlib.Core.Path.{sym, ap, ◌∙◌}
use borrow.Author.Tests.{eq-eqb, ne_eqb}
use Rattle.slices.proofs.Choice.{pick_yes, pick_no}
use Rattle.answer_gpo.specs.Options.{options_reason, profile_of, locator_of}
use Rattle.answer_afl.specs.Entries.{to_read}
use Rattle.rulebook.specs.Turn.{with_profile, read_on, optioned, turn}
use Rattle.session_state.specs.declared.State.{State}
use Rattle.session_state.specs.Reading.{early, late, records_left}
use Rattle.session_state.specs.Keeping.{with_options}
use Rattle.session_state.proofs.Starting.{late_options, left_options}
use Rattle.session_moves.specs.Moves.{moved}
use Rattle.session_answers.specs.Keeping.{keeping}
use Rattle.session_moves.proofs.Moving.{early_refused, reason_next}
use Rattle.answer_laws.proofs.Reasons.{options_small}
use Rattle.session_answers.proofs.on_options.Goals as goal

pub returns-then-why-ne0 : goal.returns-then-why-ne0
unfolding turn optioned keeping
returns-then-why-ne0 c =
    let args = c.args in
    let s = args.s in
    let a = args.a.now in
    let buf = args.buf.now in
    let why = c.options_reason-why.result in
    let e = c.options_reason-why.ensures in
    let next = read_on (with_profile (early s) (profile_of a)) (to_read (locator_of a)) in
    early_refused s buf why (options_reason a) next e (options_small a) c.if-why-ne0.true c.end.ensures
    ∙ sym
    (ap (λ (t : State). moved (optioned (early s) a) t buf)
    (pick_no _ _ _ (ne_eqb (options_reason a) 0 (λ z. c.if-why-ne0.true (e ∙ z)))))

pub returns : goal.returns
unfolding turn optioned keeping
returns c =
    let args = c.args in
    let s = args.s in
    let a = args.a.now in
    let buf = args.buf.now in
    let why = c.options_reason-why.result in
    let e = c.options_reason-why.ensures in
    let good = sym e ∙ c.if-why-ne0.false in
    let next = read_on (with_profile (early s) (profile_of a)) (to_read (locator_of a)) in
    let t = with_options a s in
    c.read_on.ensures
    ∙ (ap (λ (x : State). moved (read_on (late x) (records_left x)) x buf) c.with_options.ensures
    ∙ ((λ i. moved (read_on (late_options s a good i) (left_options s a good i)) t buf)
    ∙ sym (ap (λ (x : State). moved (optioned (early s) a) x buf) (pick_yes _ _ _ (eq-eqb (options_reason a) 0 good))
    ∙ reason_next why (options_reason a) (early s) next t buf e c.if-why-ne0.false)))
