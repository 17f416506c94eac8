-- Where the terminal has no capabilities a session goes on as it did before cardholder verification: nine names count in a record, and
-- after the last one no results are awaited.
-- Assumes nothing.
use mathlib.Core.Path.{◌≡◌, refl, sym, ap, ◌∙◌}
use mathlib.Core.Bool.{false, false≢true}
use mathlib.Core.List.{List, [], ◌∷◌, map}
use mathlib.Core.Option.{none}
use Prim.Native.Nat.{ℕ}
use lib.Dec.{eqb}
use Rattle.slices.specs.Choice.{pick}
use Rattle.slices.specs.Tests.{every, is_some}
use Rattle.slices.proofs.Choice.{pick_no}
use Rattle.start_fields.specs.Reading.{Terminal}
use Rattle.facts.specs.Facts.{Facts, or_else}
use Rattle.answer_common.specs.Content.{Row, rows_for, names_for}
use Rattle.answer_gpo.specs.Options.{options_reason, profile_of, locator_of}
use Rattle.answer_afl.specs.Entries.{to_read}
use Rattle.answer_record.specs.Records.{record_reason, named_in, after_records}
use Rattle.decide_verification.specs.Verification.{results_due}
use Rattle.words.specs.declared.Word.{Word}
use Rattle.words.specs.declared.Word.TheVariants.{Host, Results}
use Rattle.rulebook.specs.Situation.{Situation}
use Rattle.rulebook.specs.Phase.{Asked, selecting, optioning, reading, first, second, situation_of, ended}
use Rattle.rulebook.specs.Turn.{goes_on, managed, requested, verifying, all_read, read_on}
use Rattle.rulebook.specs.Turn.{with_profile, optioned, with_record, recorded, turn}
use Rattle.rulebook.proofs.Passing.{Due, Awaited}
use Rattle.verdict_before.specs.Before.{names_before, all_read_before, read_on_before, optioned_before}
use Rattle.verdict_before.specs.Before.{with_record_before, recorded_before, turn_before}

-- no results are due
pub not_due : (t : Terminal) (aip : List ℕ) (told : Facts) → t.capabilities ≡ none → results_due t aip told ≡ false
unfolding results_due is_some every
not_due t aip told e = pick_no _ _ _ (ap is_some e)

-- so that only the issuer's word is ever awaited
pub only_replies : (word : Word) (s : Situation) → s.terminal.capabilities ≡ none → Awaited word s → word ≡ Host
unfolding Due
only_replies Host s e aw = refl
only_replies Results s e aw = absurd (false≢true (sym (not_due s.terminal s.profile s.facts e) ∙ aw.due))

-- nine names count
pub nine_names : (t : Terminal) → t.capabilities ≡ none → names_for t ≡ names_before
unfolding names_for rows_for is_some
nine_names t e = ap (λ (rows : List Row). map (λ (r : Row). r.tag) rows) (pick_no _ _ _ (ap is_some e))

module _ (s : Situation) (e : s.terminal.capabilities ≡ none) where
  verifying_same : verifying s ≡ requested (after_records s.facts) s
  unfolding verifying
  verifying_same = pick_no _ _ _ (not_due s.terminal s.profile s.facts e)

  record_same : (a : List ℕ) → with_record s a ≡ with_record_before s a
  unfolding with_record with_record_before
  record_same a =
      ap (λ (names : List ℕ).
      record {
        terminal = s.terminal;
        profile = s.profile;
        facts = λ tag. or_else (s.facts tag) (named_in names tag a);
        tvr = s.tvr;
        tsi = s.tsi;
      }) (nine_names s.terminal e)

all_read_same : (s : Situation) → s.terminal.capabilities ≡ none → all_read s ≡ all_read_before s
unfolding all_read all_read_before managed
all_read_same s e = ap (pick (eqb (after_records s.facts) 8) (ended 8 s)) (verifying_same (managed s) e)

read_on_same : (s : Situation) (rest : List (ℕ × ℕ)) → s.terminal.capabilities ≡ none → read_on s rest ≡ read_on_before s rest
unfolding read_on read_on_before
read_on_same s [] e = all_read_same s e
read_on_same s (r ∷ rest) e = refl

-- whatever the card answers
pub turn_same : (w : Asked) (a : List ℕ) → (situation_of w).terminal.capabilities ≡ none → turn w a ≡ turn_before w a
unfolding turn turn_before situation_of optioned optioned_before recorded recorded_before with_profile with_record
turn_same (selecting s) a e = refl
turn_same (optioning s list) a e =
    ap (goes_on (options_reason a) s) (read_on_same (with_profile s (profile_of a)) (to_read (locator_of a)) e)
turn_same (reading s number file rest) a e =
    ap (λ (names : List ℕ). goes_on (record_reason names (λ tag. is_some (s.facts tag)) a) s (read_on (with_record s a) rest))
    (nine_names s.terminal e)
    ∙ ap (goes_on (record_reason names_before (λ tag. is_some (s.facts tag)) a) s)
    (read_on_same (with_record s a) rest e ∙ ap (λ (u : Situation). read_on_before u rest) (record_same s e a))
turn_same (first s request) a e = refl
turn_same (second s request code) a e = refl
