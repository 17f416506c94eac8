-- `session_records_read::all_read` meets its contract: 8 comes before the bits are set, and what follows after.
-- Assumes nothing.
use mathlib.Core.Path.{◌≡◌, sym, ap, ◌∙◌}
use borrow.Author.Tests.{eq-eqb, ne_eqb}
use Rattle.slices.proofs.Choice.{pick_yes, pick_no}
use Rattle.answer_record.specs.Records.{after_records}
use Rattle.rulebook.specs.Situation.{Situation}
use Rattle.rulebook.specs.Phase.{Phase, ended}
use Rattle.rulebook.specs.Turn.{verifying, all_read}
use Rattle.session_state.specs.declared.State.{State}
use Rattle.session_state.specs.Reading.{start_in, situation_with, late}
use Rattle.session_records.specs.Slots.{told}
use Rattle.start_fields.specs.Reading.{reading_of}
use Rattle.decide_tvr.specs.Results.{tvr_after_records, tsi_after_records}
use Rattle.session_moves.specs.Moves.{moved}
use Rattle.session_records_read.specs.Storing.{managed_state}
use Rattle.session_moves.proofs.Moving.{late_decided}
use Rattle.session_moves.proofs.Bits.{bits_moved}
use Rattle.session_records_read.proofs.Managing.{late_managed}
use Rattle.session_records_read.proofs.all_read.Goals as goal

pub returns-then-why-eq-FOR_MISSING : goal.returns-then-why-eq-FOR_MISSING
unfolding all_read ended late situation_with
returns-then-why-eq-FOR_MISSING c =
    let args = c.args in
    let s = args.s in
    let buf = args.buf.now in
    late_decided s buf 3 8 c.end.ensures
    ∙ sym
    (ap (λ (p : Phase). moved p s buf)
    (pick_yes _ _ _ (eq-eqb (after_records (told s.told)) 8 (sym c.reason-why.ensures ∙ c.if-why-eq-FOR_MISSING.true))))

pub returns : goal.returns
unfolding all_read late situation_with managed_state
returns c =
    let args = c.args in
    let s = args.s in
    let buf = args.buf.now in
    let n = after_records (told s.told) in
    let e = c.reason-why.ensures in
    let h : n ≡ 8 → ⊥ = λ x. c.if-why-eq-FOR_MISSING.false (e ∙ x) in
    c.verify.ensures
    ∙ (ap (λ (t : State). moved (verifying (late t)) t buf) c.managed.ensures
    ∙ (bits_moved (verifying (late (managed_state s))) s.waiting
    (tvr_after_records (reading_of (start_in s)) s.profile (told s.told) s.tvr)
    (tsi_after_records s.profile s.tsi) s buf
    ∙ (ap (λ (z : Situation). moved (verifying z) s buf) (late_managed s)
    ∙ sym (ap (λ (p : Phase). moved p s buf) (pick_no _ _ _ (ne_eqb n 8 h))))))
