-- The tests of an object, by its value and by how often it stands there.
-- Assumes nothing.
use mathlib.Core.Path.{◌≡◌, refl}
use mathlib.Core.Bool.{true}
use mathlib.Core.List.{[], ◌∷◌}
use native.Mathlib.Omega.{arith}
use lib.Dec.{eqb}
use lib.ListN.{length, get_or}
use Rattle.slices.specs.Choice.{pick}
use Rattle.slices.specs.Tests.{every, between}
use Rattle.tlv_list.specs.Lookup.{Lookup, absent, once, twice}
use Rattle.answer_common.specs.Named.{times, told, value_of}
use Rattle.select_answers.specs.Objects.{name_right, indicator_right, file_right}

pub name_value : (l : Lookup) → between 5 16 (length (value_of l)) ≡ name_right l
unfolding name_right value_of told between every pick
name_value absent = refl
name_value (once v) = refl
name_value twice = refl

pub indicator_none : (l : Lookup) → times l ≡ 0 → true ≡ indicator_right l
unfolding indicator_right times
indicator_none absent e = refl
indicator_none (once v) e = absurd (omega arith)
indicator_none twice e = absurd (omega arith)

pub indicator_value : (l : Lookup) → (times l ≡ 0 → ⊥) → eqb (length (value_of l)) 1 ≡ indicator_right l
unfolding indicator_right times value_of told
indicator_value absent e = absurd (e refl)
indicator_value (once v) e = refl
indicator_value twice e = refl

pub file_value : (l : Lookup) → every (eqb (length (value_of l)) 1 ∷ between 1 10 (get_or (value_of l) 0 0) ∷ []) ≡ file_right l
unfolding file_right value_of told every pick
file_value absent = refl
file_value (once v) = refl
file_value twice = refl
