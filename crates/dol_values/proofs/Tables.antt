-- What stands beside a number in two tables, one behind the other.
-- Assumes nothing.
use mathlib.Core.Path.{◌≡◌, refl, ap}
use mathlib.Core.List.{List, [], ◌∷◌, ◌++◌}
use Prim.Native.Nat.{ℕ}
use lib.Dec.{eqb}
use Rattle.slices.specs.Choice.{pick}
use Rattle.slices.specs.Tables.{beside}

-- a table that goes on behind another
pub beside_append : {A : Type 0} (other : A) (n : ℕ) (rows more : List (ℕ × A))
    → beside other n (rows ++ more) ≡ beside (beside other n more) n rows
unfolding beside
beside_append other n [] more = refl
beside_append other n (row ∷ rows) more = ap (pick (eqb n row.0) row.1) (beside_append other n rows more)
