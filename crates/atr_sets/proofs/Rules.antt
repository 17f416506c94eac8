-- The lines of the rules are numbered from 1, one after the other, and so are found again by the lowest bit of their set and by their
-- number.
-- Assumes nothing.
use mathlib.Core.Path.{◌≡◌, refl}
use mathlib.Core.Bool.{Bool, true, false}
use mathlib.Core.List.{[], ◌∷◌}
use Prim.Native.Nat.{ℕ, ◌≤◌}
use native.Mathlib.Omega.{arith}
use lib.ListN.{length}
use Rattle.slices.specs.Choice.{pick}
use Rattle.slices.specs.Tables.{beside}
use Rattle.atr_characters.specs.declared.Located.{Located}
use Rattle.atr_rules.specs.Names.{numbers}
use Rattle.atr_rules.specs.Lines.{first_lines, second_lines, third_lines, last_lines, lines_of, set_of, first_broken}
use Rattle.atr_sets.specs.Sets.{lowest, place_of}
use Rattle.atr_sets.proofs.Firsts.{Numbered, first_number, place_beside}

pub numbered : (ts : Bool) (l : Located) (warm : Bool) → Numbered 1 (lines_of ts l warm)
unfolding lines_of first_lines second_lines third_lines last_lines pick
numbered true l warm = refl
numbered false l warm = refl

few : (ts : Bool) (l : Located) (warm : Bool) → length (lines_of ts l warm) ≤ numbers
unfolding lines_of first_lines second_lines third_lines last_lines pick
few true l warm = omega arith
few false l warm = omega arith

module _ (ts : Bool) (l : Located) (warm : Bool) where
  pub first_found : lowest numbers 1 (set_of (lines_of ts l warm)) ≡ (first_broken (lines_of ts l warm)).number
  first_found = first_number numbers 1 (lines_of ts l warm) (numbered ts l warm) (few ts l warm)

pub place_found : (ts : Bool) (l : Located) (warm : Bool)
    → place_of l (first_broken (lines_of ts l warm)).number ≡ (first_broken (lines_of ts l warm)).place
unfolding place_of lines_of first_lines second_lines third_lines last_lines pick beside first_broken
place_found true l warm = refl
place_found false l warm = place_beside 1 (lines_of false l warm) (omega arith) (numbered false l warm)

-- the places by number, as a table
pub place_table : (l : Located) (k : ℕ) → place_of l k ≡ beside 0 k (
    (1, 0) ∷ (2, l.first.a) ∷ (3, l.first.b) ∷ (4, l.first.b) ∷ (5, l.first.d) ∷ (6, l.second.a) ∷
    (7, l.second.b) ∷ (8, l.second.c) ∷ (9, l.second.d) ∷ (10, l.third.a) ∷ (11, l.third.b) ∷ (12, l.third.b) ∷
    (13, l.third.b) ∷ (14, l.third.b) ∷ (15, l.third.c) ∷ (16, 33) ∷ (17, l.size) ∷ (18, l.end) ∷
    (19, l.end) ∷ (20, 33) ∷ (21, l.after) ∷ (22, 33) ∷ [])
unfolding place_of lines_of first_lines second_lines third_lines last_lines pick
place_table l k = refl
