-- The bits that the results set, stored and read back.
-- Assumes nothing.
use mathlib.Core.Path.{◌≡◌, refl}
use mathlib.Core.List.{List}
use Prim.Native.Nat.{ℕ}
use Rattle.rulebook.specs.Turn.{verified_by}
use Rattle.session_state.specs.Reading.{situation_with, late}
use Rattle.session_state.specs.Keeping.{changed}
use Rattle.session_state.specs.declared.State.{State}
use Rattle.session_first.specs.Storing.{verified_state}

pub late_verified : (results : List ℕ) (s : State) → late (verified_state results s) ≡ verified_by (late s) results
unfolding late situation_with verified_state changed verified_by
late_verified results s = refl
