-- Choice by a test, by the first of several tests that applies, and of bytes that are there.
-- Assumes nothing.
use Rattle.std.specs.Prelude.{Bool, true, false, List, [], ◌∷◌, ℕ}
use Rattle.std.proofs.Math.Option.{Option, none, some}

-- the first of two values where the test holds, else the second
unfoldable pub pick : {A : Type 0} → Bool → A → A → A
pick true a b = a
pick false a b = b

-- the number beside the first test that holds; where none does, 0
unfoldable pub first_of : List (Bool × ℕ) → ℕ
first_of [] = 0
first_of (line ∷ lines) = pick line.0 line.1 (first_of lines)

-- bytes, where there are any
unfoldable pub unless_empty : List ℕ → Option (List ℕ)
unless_empty [] = none
unless_empty (b ∷ bs) = some (b ∷ bs)
