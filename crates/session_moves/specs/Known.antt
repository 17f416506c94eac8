-- The slots that an object list is filled from, as arrays.
-- Assumes nothing.
use Rattle.std.specs.Prelude.{List, ◌++◌, ℕ, drop}
use Rattle.slices.specs.Writing.{zeros}
use Rattle.session_records.specs.Slots.{told_from, kept_in, full}
use Rattle.session_state.specs.declared.State.{State}

-- what the records told, and nothing else
unfoldable pub only_told : List ℕ → List ℕ
only_told d = zeros told_from ++ drop told_from d

-- TVR and TSI at any time; the profile once it was read; the response code from the second request on (01, "The commands")
unfoldable pub known_early : State → List ℕ
known_early s = kept_in 0x9B s.tsi (kept_in 0x95 s.tvr (only_told (full s.told.bytes)))

unfoldable pub known_late : State → List ℕ
known_late s = kept_in 0x82 s.profile (known_early s)

unfoldable pub known_second : List ℕ → State → List ℕ
known_second response s = kept_in 0x8A response (known_late s)
