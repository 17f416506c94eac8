-- Rows of bits, as lists of bytes: action codes, the TVR and the TSI.
-- Assumes nothing.
use Rattle.std.specs.Prelude.{Bool, true, false, List, [], ◌∷◌, ℕ, eqb}
use Rattle.std.specs.Int.Bits.{bit_and, bit_or}
use Rattle.slices.specs.Choice.{pick}

-- two rows joined bit by bit; where one has ended, the other goes on
unfoldable pub joined : List ℕ → List ℕ → List ℕ
joined [] bs = bs
joined (a ∷ as') [] = a ∷ as'
joined (a ∷ as') (b ∷ bs) = bit_or a b ∷ joined as' bs

-- whether some bit is set in both rows
unfoldable pub meet : List ℕ → List ℕ → Bool
meet [] bs = false
meet (a ∷ as') [] = false
meet (a ∷ as') (b ∷ bs) = pick (eqb (bit_and a b) 0) (meet as' bs) true

-- a bit of a byte, set where the test holds
unfoldable pub flag : Bool → ℕ → ℕ
flag test bit = pick test bit 0
