-- `session_first::verify` meets its contract: the results are waited for where they are due, and else the first request follows.
-- Assumes nothing.
use mathlib.Core.Path.{refl, sym, ap, ap₂, ◌∙◌}
use mathlib.Core.List.{List}
use Prim.Native.Nat.{ℕ}
use native.Mathlib.Omega.{arith}
use Rattle.slices.proofs.Choice.{pick_yes, pick_no}
use Rattle.start_fields.specs.Reading.{reading_of}
use Rattle.words.specs.Words.{word_kind}
use Rattle.words.specs.declared.Word.TheVariants.{Results}
use Rattle.answer_laws.proofs.Reasons.{after_small}
use Rattle.session_records.specs.Slots.{told_in, told}
use Rattle.decide_verification.specs.Verification.{results_due, results_wanted}
use Rattle.rulebook.specs.Phase.{says, Phase, due_kind, tvr_of, tsi_of}
use Rattle.rulebook.specs.Turn.{requested, wanted_in, verifying}
use Rattle.session_phase.specs.declared.Speaker.TheVariants.{Says}
use Rattle.session_phase.specs.declared.Waiting.TheVariants.{ForWord}
use Rattle.session_phase.specs.declared.Reply.TheVariants.{Due}
use Rattle.session_state.specs.Reading.{situation_with, late}
use Rattle.session_moves.specs.Moves.{speaker_of, moved, waiting_for}
use Rattle.session_moves.proofs.Moving.{hearing}
use Rattle.session_first.proofs.verify.Goals as goal

pub returns-then-is_due : goal.returns-then-is_due
unfolding verifying late situation_with told speaker_of wanted_in due_kind tvr_of tsi_of
returns-then-is_due c =
    let args = c.args in
    let s = args.s in
    let buf = args.buf.now in
    let bytes = c.bytes_of-told.ensures.0 in
    let due = c.is_due.ensures
    ∙ ap₂ (λ (x d : List ℕ). results_due (reading_of x) s.profile (told_in d)) c.part.ensures bytes in
    let count = c.wanted.ensures ∙ ap (λ (d : List ℕ). results_wanted (told_in d)) bytes in
    hearing s buf (says Results (late s)) (c.hear.ensures ∙ ap (λ (n : ℕ). waiting_for (ForWord (Says Results n))
    (Due (word_kind Results)) s) count) refl refl
    ∙ sym (ap (λ (p : Phase). moved p s buf) (pick_yes _ _ _ (sym due ∙ c.if-is_due.true)))

pub request_first-requires : goal.request_first-requires
request_first-requires c =
    omega (
      arith,
      c.reason.ensures,
      after_small (told c.args.s.told),
    )

pub returns : goal.returns
unfolding verifying late situation_with told
returns c =
    let args = c.args in
    let s = args.s in
    let buf = args.buf.now in
    let due = c.is_due.ensures
    ∙ ap₂ (λ (x d : List ℕ). results_due (reading_of x) s.profile (told_in d)) c.part.ensures
    c.bytes_of-told.ensures.0 in
    c.request_first.ensures
    ∙ (ap (λ (k : ℕ). moved (requested k (late s)) s buf) c.reason.ensures
    ∙ sym (ap (λ (p : Phase). moved p s buf) (pick_no _ _ _ (sym due ∙ c.if-is_due.false))))
