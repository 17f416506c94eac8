-- `session_answers::on_select` meets its contract: a bad answer ends the session, and a good one leads to GPO, filled from 9F38.
-- Assumes nothing.
use mathlib.Core.Path.{◌≡◌, sym, ap, ◌∙◌}
use mathlib.Core.List.{List}
use Prim.Native.Nat.{ℕ}
use Rattle.start_fields.specs.Reading.{reading_of}
use Rattle.answer_select.specs.Select.{select_reason, pdol_of}
use Rattle.rulebook.specs.Phase.{optioning, asks}
use Rattle.rulebook.specs.Turn.{selected, turn}
use Rattle.session_state.specs.Reading.{start_in, situation_with, early}
use Rattle.session_moves.specs.Moves.{moved}
use Rattle.session_answers.specs.Keeping.{keeping}
use Rattle.session_moves.proofs.Moving.{early_refused, reason_next}
use Rattle.answer_laws.proofs.Reasons.{select_small}
use Rattle.session_answers.proofs.on_select.Goals as goal

-- the reason by what counts of START's bytes
reason_of_lem : (a : List ℕ) {x y : List ℕ} → x ≡ y → select_reason (reading_of x) a ≡ select_reason (reading_of y) a
reason_of_lem a e = ap (λ (l : List ℕ). select_reason (reading_of l) a) e

pub returns-then-why-ne0 : goal.returns-then-why-ne0
unfolding turn selected keeping early situation_with
returns-then-why-ne0 c =
    let args = c.args in
    let s = args.s in
    let a = args.a.now in
    let buf = args.buf.now in
    let why = c.select_reason-why.result in
    early_refused s buf why (select_reason (reading_of (start_in s)) a) (asks (optioning (early s) (pdol_of a)))
    (c.select_reason-why.ensures ∙ reason_of_lem a c.part-terminal.ensures) (select_small (reading_of
    (start_in s)) a) c.if-why-ne0.true c.end.ensures

pub returns : goal.returns
unfolding turn selected keeping early situation_with
returns c =
    let args = c.args in
    let s = args.s in
    let a = args.a.now in
    let buf = args.buf.now in
    let why = c.select_reason-why.result in
    c.options_due.ensures
    ∙ (ap (λ (l : List ℕ). moved (asks (optioning (early s) l)) s buf) c.pdol.ensures
    ∙ sym
    (reason_next why (select_reason (reading_of (start_in s)) a) (early s) (asks (optioning (early s) (pdol_of a))) s buf
    (c.select_reason-why.ensures ∙ reason_of_lem a c.part-terminal.ensures)
    c.if-why-ne0.false))
