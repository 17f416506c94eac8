-- Bytes in hexadecimal: two digits for each, the high one first.
-- Assumes nothing.
use Rattle.std.specs.Prelude.{Bool, ◌&&◌, List, [], ◌∷◌, ℕ, ◌+◌, ◌*◌, ◌-◌, ◌/◌, ◌%◌, ltb, leb, take}
use Rattle.slices.specs.Choice.{pick}

-- b is one of the bytes from a to e
unfoldable pub among : ℕ → ℕ → ℕ → Bool
among a e b = leb a b && leb b e

-- the value of a digit, '0' to '9', 'A' to 'F' or 'a' to 'f'; 16 for a byte that is none
unfoldable pub digit : ℕ → ℕ
digit b =
    pick (among 0x30 0x39 b) (b - 0x30)
    (pick (among 0x41 0x46 b) (b - 0x41 + 10)
    (pick (among 0x61 0x66 b) (b - 0x61 + 10) 16))

-- the digit for a value below 16, letters in upper case
unfoldable pub digit_for : ℕ → ℕ
digit_for d = pick (ltb d 10) (0x30 + d) (0x41 + (d - 10))

-- the byte that two characters stand for; 256 where they are not both digits
unfoldable pub pair : ℕ → ℕ → ℕ
pair a b = pick (ltb (digit a) 16 && ltb (digit b) 16) (16 * digit a + digit b) 256

-- the bytes that a text stands for, as far as it is pairs of digits
unfoldable pub unhexed : List ℕ → List ℕ
unhexed [] = []
unhexed (a ∷ []) = []
unhexed (a ∷ b ∷ s) = pick (ltb (pair a b) 256) (pair a b ∷ unhexed s) []

-- the text for some bytes
unfoldable pub hexed : List ℕ → List ℕ
hexed [] = []
hexed (b ∷ s) = digit_for (b / 16) ∷ digit_for (b % 16) ∷ hexed s

-- as much of either as there is room for; of the text only whole pairs
unfoldable pub unhexed_for : ℕ → List ℕ → List ℕ
unhexed_for room s = take room (unhexed s)

unfoldable pub hexed_for : ℕ → List ℕ → List ℕ
hexed_for room s = hexed (take (room / 2) s)
