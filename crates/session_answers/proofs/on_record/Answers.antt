-- `session_answers::on_record` meets its contract: a bad answer ends the session, and what a good one tells is kept.
-- Assumes nothing.
use mathlib.Core.Path.{◌≡◌, sym, ap, ap₂, ◌∙◌}
use mathlib.Core.List.{List}
use Prim.Native.Nat.{ℕ}
use mathlib.Core.Bool.{Bool}
use lib.Seq.{length-take-le}
use borrow.Author.Tests.{eq-eqb, ne_eqb}
use Rattle.slices.proofs.Choice.{pick_yes, pick_no}
use Rattle.slices.specs.Tests.{is_some}
use Rattle.start_fields.specs.Reading.{reading_of}
use Rattle.answer_common.specs.Content.{record_names, names_for}
use Rattle.answer_common.proofs.Names.{named_somewhere}
use Rattle.answer_record.specs.Records.{record_reason}
use Rattle.answer_record.specs.Taken.{Taken, taken, record_taken}
use Rattle.answer_record.proofs.Taken.{taken_reason, taken_kept}
use Rattle.rulebook.specs.Situation.{Situation}
use Rattle.rulebook.specs.Turn.{with_record as record_added, read_on, recorded, turn}
use Rattle.session_state.specs.declared.State.{State}
use Rattle.session_records.specs.declared.Store.{Store}
use Rattle.session_state.specs.Reading.{start_in, situation_with, late, records_left}
use Rattle.session_records.specs.Slots.{full, told, with_record}
use Rattle.session_records.proofs.Keeping.{full_length_lem}
use Rattle.session_state.specs.Keeping.{with_told}
use Rattle.session_state.proofs.Starting.{late_told}
use Rattle.session_moves.specs.Moves.{moved}
use Rattle.session_answers.specs.Keeping.{keeping}
use Rattle.session_moves.proofs.Moving.{late_refused, reason_next}
use Rattle.answer_laws.proofs.Reasons.{record_small}
use Rattle.session_answers.proofs.on_record.Goals as goal

-- what was taken of a record, by the names that count and the bytes of the store
module _ (s : State) (a names d out : List ℕ) (why : ℕ) (n : names ≡ names_for (reading_of (start_in s))) (b : d ≡ full s.told.bytes)
    (t : taken why out ≡ record_taken names a d) where
  all_taken : taken why out ≡ record_taken (names_for (reading_of (start_in s))) a (full s.told.bytes)
  all_taken = t ∙ ap₂ (λ (x y : List ℕ). record_taken x a y) n b

  reason_of_lem : why ≡ record_reason (names_for (reading_of (start_in s))) (λ name. is_some (told s.told name)) a
  unfolding taken told
  reason_of_lem =
      ap (λ (k : Taken). k.why) all_taken
      ∙ taken_reason (names_for (reading_of (start_in s))) (named_somewhere (reading_of (start_in s))) a (full s.told.bytes)
      (full_length_lem s.told.bytes)

  store_of : why ≡ 0 → record { bytes = out } ≡ with_record (names_for (reading_of (start_in s))) a s.told
  unfolding taken with_record
  store_of z =
      ap (λ (x : List ℕ). record { bytes = x })
      (ap (λ (k : Taken). k.bytes) all_taken
      ∙ taken_kept (names_for (reading_of (start_in s))) (named_somewhere (reading_of (start_in s))) a (full s.told.bytes)
      (full_length_lem s.told.bytes) (sym (ap (λ (k : Taken). k.why) all_taken) ∙ z))

pub slice_bounds-take-end-2 : goal.slice_bounds-take-end-2
slice_bounds-take-end-2 c = sym (length-take-le _ record_names c.names_of-n.ensures.1)

pub returns-then-why-ne0 : goal.returns-then-why-ne0
unfolding turn recorded keeping late situation_with
returns-then-why-ne0 c =
    let args = c.args in
    let s = args.s in
    let a = args.a.now in
    let buf = args.buf.now in
    let names = names_for (reading_of (start_in s)) in
    let why = c.take-why.result in
    let e = reason_of_lem s a _ _ _ why c.names_of-n.ensures.0 c.bytes_of-told.ensures.0 c.take-why.ensures in
    let next = read_on (record_added (late s) a) (records_left s) in
    let seen : ℕ → Bool = λ name. is_some (told s.told name) in
    late_refused s buf why (record_reason names seen a) next e (record_small names seen a) c.if-why-ne0.true c.end.ensures
    ∙ sym
    (ap (λ (c : State). moved (recorded (late s) (records_left s) a) c buf)
    (pick_no _ _ _ (ne_eqb (record_reason names seen a) 0 (λ z. c.if-why-ne0.true (e ∙ z)))))

pub returns : goal.returns
unfolding turn recorded keeping late situation_with records_left with_told
returns c =
    let args = c.args in
    let s = args.s in
    let a = args.a.now in
    let buf = args.buf.now in
    let names = names_for (reading_of (start_in s)) in
    let why = c.take-why.result in
    let e = reason_of_lem s a _ _ _ why c.names_of-n.ensures.0 c.bytes_of-told.ensures.0 c.take-why.ensures in
    let good = sym e ∙ c.if-why-ne0.false in
    let next = read_on (record_added (late s) a) (records_left s) in
    let kept = with_told (with_record names a s.told) s in
    let seen : ℕ → Bool = λ name. is_some (told s.told name) in
    c.read_on.ensures
    ∙ (ap (λ (x : State). moved (read_on (late x) (records_left x)) x buf)
    (c.with_told.ensures
    ∙ ap (λ (x : Store). with_told x s)
    (store_of s a _ _ _ why c.names_of-n.ensures.0 c.bytes_of-told.ensures.0 c.take-why.ensures c.if-why-ne0.false))
    ∙ (ap (λ (z : Situation). moved (read_on z (records_left s)) kept buf) (late_told s a good)
    ∙ sym (ap (λ (x : State). moved (recorded (late s) (records_left s) a) x buf)
    (pick_yes _ _ _ (eq-eqb (record_reason names seen a) 0 good))
    ∙ reason_next why (record_reason names seen a) (late s) next kept buf e c.if-why-ne0.false)))
