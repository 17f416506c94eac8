-- Every reason is a small number, so that it fits the decision's byte: none of the lines that give one has a greater.
-- Assumes nothing.
use mathlib.Core.Path.{◌≡◌, refl, sym, ◌∙◌}
use mathlib.Core.Bool.{Bool, true, false}
use mathlib.Core.List.{List, [], ◌∷◌, map}
use mathlib.Core.Option.{Option}
use Prim.Native.Nat.{ℕ, ◌<◌}
use native.Mathlib.Omega.{arith}
use lib.Dec.{leb}
use borrow.Author.Tests.{leb-false}
use Rattle.slices.specs.Choice.{pick, first_of}
use Rattle.slices.proofs.Choice.{picked, either, pick_yes, pick_no}
use Rattle.start_fields.specs.Reading.{Terminal}
use Rattle.answer_common.specs.Answer.{frame}
use Rattle.slices.specs.Tables.{any_of}
use Rattle.answer_select.specs.Select.{select_lines, select_reason}
use Rattle.answer_gpo.specs.Options.{options_lines, options_reason}
use Rattle.answer_record.specs.Records.{record_lines, record_reason, complete_reason, after_records}
use Rattle.decide_cryptogram.specs.Cryptograms.{Given}
use Rattle.answer_cryptogram.specs.Cryptogram.{cryptogram_lines, cryptogram_reason}

small : (lines : List (Bool × ℕ)) → any_of (map (λ l. leb 256 l.1) lines) ≡ false → first_of lines < 256
unfolding first_of any_of
small [] e = omega arith
small (l ∷ lines) e =
    let line =
    either (leb 256 l.1) (λ y. absurd
    (let z : true ≡ false = sym (pick_yes _ _ _ y) ∙ e in let k : ◌≡◌ {A = ℕ} 0 1 = cc in omega arith)) (λ n. n) in
    picked (λ (n : ℕ). n < 256) l.0 l.1 (first_of lines)
    (λ y. leb-false 256 l.1 line)
    (λ n. small lines (sym (pick_no _ _ _ line) ∙ e))

pub select_small : (t : Terminal) (a : List ℕ) → select_reason t a < 256
unfolding select_reason frame select_lines any_of pick
select_small t a = small _ refl

pub options_small : (a : List ℕ) → options_reason a < 256
unfolding options_reason frame options_lines any_of pick
options_small a = small _ refl

pub record_small : (names : List ℕ) (before : ℕ → Bool) (a : List ℕ) → record_reason names before a < 256
unfolding record_reason frame record_lines any_of pick
record_small names before a = small _ refl

pub cryptogram_small : (allowed : Given → Bool) (a : List ℕ) → cryptogram_reason allowed a < 256
unfolding cryptogram_reason frame cryptogram_lines any_of pick
cryptogram_small allowed a = small _ refl

pub after_small : (facts : ℕ → Option (List ℕ)) → after_records facts < 256
unfolding after_records complete_reason any_of pick
after_small facts = small _ refl
