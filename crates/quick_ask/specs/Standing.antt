-- The rulebook's situation, read off the bytes that are at hand: START, the slots of what the records told, and AIP, TVR and TSI beside
-- them.
-- Assumes nothing.
use Rattle.std.specs.Prelude.{List, ℕ}
use Rattle.start_fields.specs.Reading.{reading_of}
use Rattle.session_records.specs.Slots.{told_in}
use Rattle.rulebook.specs.Situation.{Situation}

abbrev pub situation_in : List ℕ → List ℕ → List ℕ → List ℕ → List ℕ → Situation
situation_in start told profile tvr tsi =
    record { terminal = reading_of start; profile = profile; facts = told_in told; tvr = tvr; tsi = tsi }
