-- The bits that the records set, stored and read back.
-- Assumes nothing.
use mathlib.Core.Path.{◌≡◌, refl}
use Rattle.rulebook.specs.Turn.{managed}
use Rattle.session_state.specs.Reading.{situation_with, late}
use Rattle.session_state.specs.Keeping.{changed}
use Rattle.session_state.specs.declared.State.{State}
use Rattle.session_records_read.specs.Storing.{managed_state}

pub late_managed : (s : State) → late (managed_state s) ≡ managed (late s)
unfolding late situation_with managed_state changed managed
late_managed s = refl
