-- A capture as data. 000, I-4.3.1: under the inverse convention each captured byte is a line byte.
-- Assumes nothing.
use Rattle.std.specs.Prelude.{Bool, true, false, List, [], ◌∷◌, map, ℕ}
use Rattle.std.specs.Int.Bits.{bit_xor}
use Rattle.slices.specs.Choice.{pick}
use Rattle.atr_table.specs.Turning.{turned}

-- what a captured byte says
unfoldable pub data_byte : Bool → ℕ → ℕ
data_byte inverse b = pick inverse (turned b) b

-- what a capture says
unfoldable pub data_of : Bool → List ℕ → List ℕ
data_of inverse s = map (data_byte inverse) s

-- bytes joined one after the other by exclusive or (I-4.3.4)
unfoldable pub joined_from : ℕ → List ℕ → ℕ
joined_from x [] = x
joined_from x (b ∷ s) = joined_from (bit_xor x b) s

abbrev pub one_if : Bool → ℕ
one_if true = 1
one_if false = 0
