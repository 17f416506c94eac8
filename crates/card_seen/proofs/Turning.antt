-- `turn_by` is the transition over what is seen: each part of `turn`, reason and what is gone on with, is read from what is seen by the
-- file of its place (Selection, Options, Records, Cryptograms). So where the same is seen the session goes on alike.
-- Assumes nothing.
use mathlib.Core.Path.{◌≡◌, sym, ap, ◌∙◌}
use mathlib.Core.List.{List}
use Prim.Native.Nat.{ℕ}
use Rattle.slices.specs.Tests.{is_some}
use Rattle.facts.specs.Facts.{or_else}
use Rattle.answer_common.specs.Content.{names_for}
use Rattle.answer_afl.specs.Entries.{to_read}
use Rattle.decide_cryptogram.specs.Cryptograms.{allowed_by}
use Rattle.decide_cryptogram.specs.declared.Request.TheVariants.{First, Second}
use Rattle.rulebook.specs.Situation.{Situation}
use Rattle.rulebook.specs.Phase.{Asked, selecting, optioning, reading as reading_record, first, second, Phase, asks, decided}
use Rattle.rulebook.specs.Turn.{goes_on, selected, read_on, with_profile, optioned}
use Rattle.rulebook.specs.Turn.{with_record, recorded, answered, by_first, first_answered}
use Rattle.rulebook.specs.Turn.{by_second, second_answered, turn}
use Rattle.card_seen.specs.Seen.{reading, Seen, seen}
use Rattle.card_seen.specs.Given.{place_of}
use Rattle.card_seen.proofs.Selection.{pdol_by, select_by, pdol_seen, select_seen}
use Rattle.card_seen.proofs.Options.{profile_by, locator_by, options_by, profile_seen, locator_seen, options_seen}
use Rattle.card_seen.proofs.Records.{named_by, record_by, told_seen, record_seen}
use Rattle.card_seen.proofs.Cryptograms.{cryptogram_given, cryptogram_by, cryptogram_seen, reason_seen}

unfoldable pub with_told : Situation → Seen → Situation
with_told s v =
    record {
      terminal = s.terminal;
      profile = s.profile;
      facts = λ tag. or_else (s.facts tag) (named_by (names_for s.terminal) v tag);
      tvr = s.tvr;
      tsi = s.tsi;
    }

unfoldable pub turn_by : Asked → Seen → Phase
turn_by (selecting s) v = goes_on (select_by s.terminal.aid v) s (asks (optioning s (pdol_by v)))
turn_by (optioning s list) v = goes_on (options_by v) s (read_on (with_profile s (profile_by v)) (to_read (locator_by v)))
turn_by (reading_record s number file rest) v =
    goes_on (record_by (names_for s.terminal) (λ tag. is_some (s.facts tag)) v) s (read_on (with_told s v) rest)
turn_by (first s request) v =
    goes_on (cryptogram_by (allowed_by (First request)) v) s (by_first (cryptogram_given v) (answered s))
turn_by (second s request code) v =
    goes_on (cryptogram_by (allowed_by (Second request)) v) s (decided (by_second (cryptogram_given v)) s)

told_same : (s : Situation) (a : List ℕ) → with_record s a ≡ with_told s (seen (reading (names_for s.terminal)) a)
unfolding with_record with_told
told_same s a = λ i. record {
  terminal = s.terminal;
  profile = s.profile;
  facts = λ tag. or_else (s.facts tag) (told_seen (names_for s.terminal) a tag i);
  tvr = s.tvr;
  tsi = s.tsi;
}

-- whatever the card answers
pub turn_seen : (w : Asked) (a : List ℕ) → turn w a ≡ turn_by w (seen (place_of w) a)
unfolding turn turn_by place_of selected optioned recorded first_answered second_answered
turn_seen (selecting s) a = λ i. goes_on (select_seen a s.terminal i) s (asks (optioning s (pdol_seen a i)))
turn_seen (optioning s list) a =
    λ i. goes_on (options_seen a i) s (read_on (with_profile s (profile_seen a i)) (to_read (locator_seen a i)))
turn_seen (reading_record s number file rest) a =
    λ i. goes_on (record_seen (names_for s.terminal) a (λ tag. is_some (s.facts tag)) i) s (read_on (told_same s a i) rest)
turn_seen (first s request) a =
    λ i. goes_on (reason_seen a (allowed_by (First request)) i) s (by_first (cryptogram_seen a i) (answered s))
turn_seen (second s request code) a =
    λ i. goes_on (reason_seen a (allowed_by (Second request)) i) s (decided (by_second (cryptogram_seen a i)) s)

-- what is seen settles it
pub settled : (w : Asked) (a b : List ℕ) → seen (place_of w) a ≡ seen (place_of w) b → turn w a ≡ turn w b
settled w a b e = turn_seen w a ∙ (ap (turn_by w) e ∙ sym (turn_seen w b))
