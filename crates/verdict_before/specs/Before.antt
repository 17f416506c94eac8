-- How a session went on before cardholder verification (02, R-7), as far as that request changed it: what records name, what follows the
-- last record, and which START is valid. Each definition is today's of the same name with the older ones in place (rulebook, specs/Turn);
-- what the request left alone is named from where it stands.
-- Assumes nothing.
use Rattle.std.specs.Prelude.{Bool, List, [], ◌∷◌, map, ℕ, eqb, length}
use Rattle.slices.specs.Choice.{pick}
use Rattle.slices.specs.Tests.{every, is_some}
use Rattle.numbers.specs.Tables.{for_missing}
use Rattle.start_fields.specs.Layout.{start_length}
use Rattle.start_valid.specs.Start.{valid_start}
use Rattle.facts.specs.Facts.{or_else}
use Rattle.answer_common.specs.declared.content.Format.{Format}
use Rattle.answer_common.specs.declared.content.Format.TheVariants.{Numeric, CardNumber, Other, Unknown}
use Rattle.answer_gpo.specs.Options.{options_reason, profile_of, locator_of}
use Rattle.answer_afl.specs.Entries.{to_read}
use Rattle.answer_record.specs.Records.{record_reason, named_in, after_records}
use Rattle.rulebook.specs.Situation.{Situation}
use Rattle.rulebook.specs.Phase.{Asked, selecting, optioning, reading, first, second, Phase, asks, ended}
use Rattle.rulebook.specs.Turn.{goes_on, selected, managed, requested, with_profile, first_answered, second_answered}

-- what records named, each with its format in object lists: card number, expiry, effective date, version, the object lists for the first
-- and the second GENERATE AC, and the action codes default, denial and online
abbrev pub records_before : List (ℕ × Format)
records_before =
    (0x5A, CardNumber)
    ∷ (0x5F24, Numeric)
    ∷ (0x5F25, Numeric)
    ∷ (0x9F08, Other)
    ∷ (0x8C, Unknown)
    ∷ (0x8D, Unknown)
    ∷ (0x9F0D, Other)
    ∷ (0x9F0E, Other)
    ∷ (0x9F0F, Other)
    ∷ []

-- the nine names
abbrev pub names_before : List ℕ
names_before = map (λ row. row.0) records_before

-- after the last record: 8 comes before the bits are set, 9 after; nothing stands before the first request
unfoldable pub all_read_before : Situation → Phase
all_read_before s = pick (eqb (after_records s.facts) for_missing) (ended for_missing s) (requested (after_records s.facts) (managed s))

-- the next record, or the end of them
unfoldable pub read_on_before : Situation → List (ℕ × ℕ) → Phase
read_on_before s [] = all_read_before s
read_on_before s (record' ∷ rest) = asks (reading s record'.0 record'.1 rest)

-- after the answer to GPO
unfoldable pub optioned_before : Situation → List ℕ → Phase
optioned_before s a = goes_on (options_reason a) s (read_on_before (with_profile s (profile_of a)) (to_read (locator_of a)))

-- what a record tells of the nine names is added to what was told before
unfoldable pub with_record_before : Situation → List ℕ → Situation
with_record_before s a =
    record {
      terminal = s.terminal;
      profile = s.profile;
      facts = λ tag. or_else (s.facts tag) (named_in names_before tag a);
      tvr = s.tvr;
      tsi = s.tsi;
    }

-- after a record
unfoldable pub recorded_before : Situation → List (ℕ × ℕ) → List ℕ → Phase
recorded_before s rest a =
    goes_on (record_reason names_before (λ tag. is_some (s.facts tag)) a) s (read_on_before (with_record_before s a) rest)

-- after any answer of the card
unfoldable pub turn_before : Asked → List ℕ → Phase
turn_before (selecting s) a = selected s a
turn_before (optioning s list) a = optioned_before s a
turn_before (reading s number file rest) a = recorded_before s rest a
turn_before (first s request) a = first_answered s request a
turn_before (second s request code) a = second_answered s request a

-- START had 74 bytes
unfoldable pub valid_before : List ℕ → Bool
valid_before p = every (eqb (length p) start_length ∷ valid_start p ∷ [])
