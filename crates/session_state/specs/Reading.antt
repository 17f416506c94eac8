-- How the rulebook reads a state. Every value of the state has a reading.
-- Assumes nothing.
use Rattle.std.specs.Prelude.{List, [], ℕ, take}
use Rattle.start_fields.specs.Reading.{reading_of}
use Rattle.answer_afl.specs.Cursor.{remaining}
use Rattle.rulebook.specs.Situation.{Situation}
use Rattle.rulebook.specs.Phase.{Asked, selecting, optioning, reading, first, second}
use Rattle.session_phase.specs.declared.Question.{Question}
use Rattle.session_phase.specs.declared.Question.TheVariants.{Select, Options, Record, First, Second}
use Rattle.session_records.specs.Runs.{in_run}
use Rattle.session_records.specs.Slots.{told}
use Rattle.session_state.specs.declared.State.{State}

-- START as it was handed in
abbrev pub start_in : State → List ℕ
start_in s = take s.size s.start

-- the situation beside a profile
unfoldable pub situation_with : List ℕ → State → Situation
situation_with profile s =
    record {
      terminal = reading_of (start_in s);
      profile = profile;
      facts = told s.told;
      tvr = s.tvr;
      tsi = s.tsi;
    }

-- before the answer to GPO, and from then on
unfoldable pub early : State → Situation
early s = situation_with [] s

unfoldable pub late : State → Situation
late s = situation_with s.profile s

-- the records that are still to be asked for
unfoldable pub records_left : State → List (ℕ × ℕ)
records_left s = remaining (in_run s.locator) s.cursor

-- what the card was asked, as far as its answer depends on it: what went into the command alone is not kept
unfoldable pub asked_by : Question → State → Asked
asked_by Select s = selecting (early s)
asked_by Options s = optioning (early s) []
asked_by Record s = reading (late s) 0 0 (records_left s)
asked_by (First request) s = first (late s) request
asked_by (Second request) s = second (late s) request []
