-- The shopper's choice: 02, R-12.
-- Assumes nothing.
use Rattle.std.specs.Prelude.{Bool, ◌||◌, List, [], ◌∷◌, ℕ, eqb, ltb, length, get_or}
use Rattle.slices.specs.Tests.{every}

-- one byte: a place, from 0, among those shown, or 'FF' for none of them
unfoldable pub is_choice : ℕ → List ℕ → Bool
is_choice shown p = every (eqb (length p) 1 ∷ (ltb (get_or p 0 0) shown || eqb (get_or p 0 0) 0xFF) ∷ [])
