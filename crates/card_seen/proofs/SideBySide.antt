-- 02's own sentence follows from what is seen: an answer that leads to no reason has a right size and is the one expected object, so of two
-- such answers that are alike the same is seen, and the sessions are given the same.
-- Assumes nothing.
use mathlib.Core.Path.{◌≡◌, sym, ap, ◌∙◌}
use mathlib.Core.Bool.{Bool, false}
use mathlib.Core.List.{List, ◌∷◌, ◌++◌}
use Prim.Native.Nat.{ℕ}
use native.Mathlib.Omega.{arith}
use lib.Dec.{eqb}
use borrow.Author.Tests.{eqb-true}
use Rattle.slices.specs.Choice.{first_of}
use Rattle.slices.proofs.Choice.{pick_no, either}
use Rattle.slices.proofs.Lines.{line_clear}
use Rattle.answer_common.specs.Answer.{size_bad, status_bad, outer_bad, frame}
use Rattle.answer_common.specs.Content.{names_for}
use Rattle.answer_select.specs.Select.{select_reason}
use Rattle.answer_gpo.specs.Options.{options_reason}
use Rattle.answer_record.specs.Records.{record_reason}
use Rattle.answer_cryptogram.specs.Cryptogram.{cryptogram_reason}
use Rattle.rulebook.specs.Situation.{Situation}
use Rattle.rulebook.specs.Phase.{Asked, selecting, optioning, reading as reading_record, first, second}
use Rattle.rulebook.specs.Phase.{Phase, ended}
use Rattle.rulebook.specs.Turn.{goes_on, selected, optioned, recorded, first_answered, second_answered, turn}
use Rattle.rulebook.specs.Session.{rules}
use Rattle.rulebook.proofs.Said.{other_kinds}
use Rattle.card_seen.specs.Seen.{Place, expected_at, selection, options, reading, generation, seen}
use Rattle.card_seen.specs.Given.{place_of, view}
use Rattle.card_seen.specs.Under.{Whole}
use Rattle.card_seen.specs.SideBySide.{Alike, AlikeTo, reason_in}
use Rattle.card_seen.proofs.Turning.{turn_by, turn_seen}
use Rattle.card_seen.proofs.Whole.{whole}

-- ---- an answer that does not end a session has a right size, and is the one expected object

abbrev Clear : Place → List ℕ → Type 0
Clear p a = (size_bad a ≡ false) × (outer_bad (expected_at p) a ≡ false)

frame_clear : (p : Place) (a : List ℕ) (lines : List (Bool × ℕ)) → first_of (frame (expected_at p) a ++ lines) ≡ 0 → Clear p a
unfolding frame
frame_clear p a lines e =
    let one = line_clear (size_bad a) 1 ((status_bad a, 2) ∷ (outer_bad (expected_at p) a, 3) ∷ lines) (λ z. omega arith) e in
    let two = line_clear (status_bad a) 2 ((outer_bad (expected_at p) a, 3) ∷ lines) (λ z. omega arith) one.1 in
    let three = line_clear (outer_bad (expected_at p) a) 3 lines (λ z. omega arith) two.1 in
    (one.0, three.0)

pub no_reason : (reason : ℕ) (s : Situation) (next : Phase) → reason_in (goes_on reason s next) ≡ 0 → reason ≡ 0
unfolding goes_on ended reason_in
no_reason reason s next e =
    either (eqb reason 0) (λ y. eqb-true reason 0 y) (λ n. ap reason_in (sym (pick_no _ _ _ n)) ∙ e)

clear : (w : Asked) (a : List ℕ) → reason_in (turn w a) ≡ 0 → Clear (place_of w) a
unfolding turn selected optioned recorded first_answered second_answered place_of expected_at select_reason options_reason record_reason
    cryptogram_reason
clear (selecting s) a e = frame_clear selection a _ (no_reason _ s _ e)
clear (optioning s list) a e = frame_clear options a _ (no_reason _ s _ e)
clear (reading_record s number file rest) a e = frame_clear (reading (names_for s.terminal)) a _ (no_reason _ s _ e)
clear (first s request) a e = frame_clear generation a _ (no_reason _ s _ e)
clear (second s request code) a e = frame_clear generation a _ (no_reason _ s _ e)

-- ---- alike answers

pub alike_seen : (p : Place) (a b : List ℕ) → Alike p a b → Clear p a → Clear p b → seen p a ≡ seen p b
unfolding seen
alike_seen p a b alike one other = λ i. record {
  size_wrong = (one.0 ∙ sym other.0) i;
  status = alike.status i;
  form_wrong = (one.1 ∙ sym other.1) i;
  objects = alike.objects i;
}

-- of alike answers that end no session the same is seen
pub alike_to : (w : Asked) (a b : List ℕ) → AlikeTo w a b → reason_in (turn w a) ≡ 0 → reason_in (turn w b) ≡ 0
    → seen (place_of w) a ≡ seen (place_of w) b
alike_to w a b alike one other = alike_seen (place_of w) a b alike (clear w a one) (clear w b other)

-- so all that is said of whole sessions holds of the rules of 01
pub whole_today : Whole rules view AlikeTo
whole_today =
    whole rules view AlikeTo
    (record { through = (turn_by, turn_seen); no_answer = λ h. (other_kinds h).no_answer; alike = alike_to })
