-- The bits that the records set, stored in the state.
-- Assumes nothing.
use Rattle.start_fields.specs.Reading.{reading_of}
use Rattle.decide_tvr.specs.Results.{tvr_after_records, tsi_after_records}
use Rattle.session_records.specs.Slots.{told}
use Rattle.session_state.specs.Keeping.{changed}
use Rattle.session_state.specs.Reading.{start_in}
use Rattle.session_state.specs.declared.State.{State}

-- after the last record
unfoldable pub managed_state : State → State
managed_state s =
    changed s.waiting
    (tvr_after_records (reading_of (start_in s)) s.profile (told s.told) s.tvr)
    (tsi_after_records s.profile s.tsi)
    s.cursor s
