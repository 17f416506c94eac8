-- Some of several tests, and tables by number.
-- Assumes nothing.
use Rattle.std.specs.Prelude.{Bool, true, false, List, [], ◌∷◌, ℕ, eqb}
use Rattle.slices.specs.Choice.{pick}

-- whether one of the tests holds
unfoldable pub any_of : List Bool → Bool
any_of [] = false
any_of (test ∷ tests) = pick test true (any_of tests)

-- what stands beside a number in a table, or `other` where the number is not in it
unfoldable pub beside : {A : Type 0} → A → ℕ → List (ℕ × A) → A
beside other n [] = other
beside other n (row ∷ rows) = pick (eqb n row.0) row.1 (beside other n rows)
