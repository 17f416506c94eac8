-- A state that took START, the answer to GPO or a record is read as the rulebook's situation after it.
-- Assumes nothing.
use mathlib.Core.Path.{◌≡◌, ap, ◌∙◌}
use mathlib.Core.List.{List, []}
use mathlib.Core.Option.{Option, get_or}
use Prim.Native.Nat.{ℕ, ◌≤◌}
use lib.ListN.{length}
use Rattle.slices.specs.Tests.{is_some}
use Rattle.slices.specs.Writing.{zeros}
use Rattle.start_fields.specs.Layout.{full_length}
use Rattle.start_fields.specs.Reading.{reading_of}
use Rattle.answer_afl.specs.Entries.{to_read}
use Rattle.answer_afl.specs.Cursor.{start, remaining}
use Rattle.answer_afl.proofs.Walking.{all_remain}
use Rattle.answer_common.specs.Content.{names_for}
use Rattle.answer_record.specs.Records.{record_reason}
use Rattle.answer_gpo.specs.Options.{options_reason, profile_of, locator_of}
use Rattle.answer_laws.proofs.AcceptedAnswers.{options_profile, locator_size}
use Rattle.rulebook.specs.Situation.{begun as situation_begun}
use Rattle.rulebook.specs.Turn.{with_profile, with_record as record_added}
use Rattle.session_state.specs.Reading.{start_in, situation_with, early, late, records_left}
use Rattle.session_records.specs.Runs.{in_run}
use Rattle.session_records.specs.Slots.{told, with_record}
use Rattle.session_state.specs.Keeping.{with_options, state_at, begun, with_told}
use Rattle.session_state.specs.declared.State.{State}
use Rattle.session_records.proofs.There.{fixed_all, fixed_first, run_kept}
use Rattle.session_state.proofs.Telling.{nothing_told, facts_told}

pub early_begun : (b : List ℕ) → length b ≤ full_length → early (begun b) ≡ situation_begun (reading_of b)
unfolding early situation_with begun state_at situation_begun
early_begun b e =
    λ i. record {
      terminal = reading_of (fixed_first full_length b e i);
      profile = [];
      facts = nothing_told i;
      tvr = zeros 5;
      tsi = zeros 2;
    }

module _ (s : State) (a : List ℕ) (good : options_reason a ≡ 0) where
  pub late_options : late (with_options a s) ≡ with_profile (early s) (profile_of a)
  unfolding late early situation_with with_options with_profile
  late_options =
      λ i. record {
        terminal = reading_of (start_in s);
        profile = fixed_all 2 (profile_of a) (options_profile a good) i;
        facts = told s.told;
        tvr = s.tvr;
        tsi = s.tsi;
      }

  pub left_options : records_left (with_options a s) ≡ to_read (locator_of a)
  unfolding records_left with_options in_run
  left_options =
      ap (λ (v : List ℕ). remaining v start) (ap (λ (o : Option (List ℕ)). get_or o []) (run_kept (locator_of a) (locator_size a)))
      ∙ all_remain (locator_of a)

pub late_told : (s : State) (a : List ℕ) → record_reason (names_for (late s).terminal) (λ name. is_some (told s.told name)) a ≡ 0
    → late (with_told (with_record (names_for (late s).terminal) a s.told) s) ≡ record_added (late s) a
unfolding late situation_with with_told record_added
late_told s a good =
    λ i. record {
      terminal = reading_of (start_in s);
      profile = s.profile;
      facts = facts_told (reading_of (start_in s)) s.told a good i;
      tvr = s.tvr;
      tsi = s.tsi;
    }
