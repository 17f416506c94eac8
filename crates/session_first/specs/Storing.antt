-- The bits that the results of cardholder verification set, stored in the state.
-- Assumes nothing.
use Rattle.std.specs.Prelude.{List, ℕ}
use Rattle.start_fields.specs.Reading.{reading_of}
use Rattle.session_records.specs.Slots.{told}
use Rattle.decide_verification.specs.Verification.{tvr_after_results, tsi_after_results}
use Rattle.session_state.specs.Keeping.{changed}
use Rattle.session_state.specs.Reading.{start_in}
use Rattle.session_state.specs.declared.State.{State}

unfoldable pub verified_state : List ℕ → State → State
verified_state results s =
    changed s.waiting
    (tvr_after_results (reading_of (start_in s)) (told s.told) results s.tvr)
    (tsi_after_results s.tsi)
    s.cursor s
