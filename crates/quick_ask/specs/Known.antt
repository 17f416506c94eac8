-- The slots that an object list is filled from, as arrays, for any bytes of what the records told. That they say what the rulebook knows is
-- proved (proofs/Knowing).
-- Assumes nothing.
use Rattle.std.specs.Prelude.{List, ℕ, ◌-◌, take, drop}
use Rattle.slices.specs.Writing.{laid, zeros}
use Rattle.session_records.specs.Slots.{end, told_from, kept_in}

-- what the records told, and nothing else
unfoldable pub only_told : List ℕ → List ℕ
only_told told = laid (take (end - told_from) (drop told_from told)) told_from (zeros end)

-- TVR and TSI at any time; the profile once it was read; the response code from the second request on (01, "The commands")
unfoldable pub known_early : List ℕ → List ℕ → List ℕ → List ℕ
known_early told tvr tsi = kept_in 0x9B tsi (kept_in 0x95 tvr (only_told told))

unfoldable pub known_late : List ℕ → List ℕ → List ℕ → List ℕ → List ℕ
known_late told profile tvr tsi = kept_in 0x82 profile (known_early told tvr tsi)

unfoldable pub known_second : List ℕ → List ℕ → List ℕ → List ℕ → List ℕ → List ℕ
known_second response told profile tvr tsi = kept_in 0x8A response (known_late told profile tvr tsi)
