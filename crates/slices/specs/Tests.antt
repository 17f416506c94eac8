-- Tests: several at once, a number between two limits, two lists that are the same, something that is there.
-- Assumes nothing.
use Rattle.std.specs.Prelude.{Bool, true, false, List, [], ◌∷◌, ℕ, leb, eqb}
use Rattle.std.proofs.Math.Option.{Option, none, some}
use Rattle.slices.specs.Choice.{pick}

-- whether all of the tests hold
unfoldable pub every : List Bool → Bool
every [] = true
every (test ∷ tests) = pick test (every tests) false

-- whether n is neither below the first number nor above the second
unfoldable pub between : ℕ → ℕ → ℕ → Bool
between low high n = every (leb low n ∷ leb n high ∷ [])

-- whether two lists are the same
unfoldable pub alike : List ℕ → List ℕ → Bool
alike [] [] = true
alike [] (b ∷ bs) = false
alike (a ∷ as') [] = false
alike (a ∷ as') (b ∷ bs) = pick (eqb a b) (alike as' bs) false

-- whether there is something
unfoldable pub is_some : {A : Type 0} → Option A → Bool
is_some none = false
is_some (some a) = true
