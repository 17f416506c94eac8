-- The card number, 5A: 1-10 bytes, read as halves; digits, at least one, then only 'F'. 01, "What the card must answer".
-- Assumes nothing.
use Rattle.std.specs.Prelude.{Bool, List, [], ◌∷◌, map, ℕ, suc, ◌/◌, ◌%◌, leb, eqb, length, drop}
use Rattle.slices.specs.Choice.{pick}
use Rattle.slices.specs.Tests.{every, between}

-- each byte's upper half, then its lower half
unfoldable pub halves : List ℕ → List ℕ
halves [] = []
halves (b ∷ s) = b / 16 ∷ b % 16 ∷ halves s

-- how many digits stand at the front
unfoldable pub digits : List ℕ → ℕ
digits [] = 0
digits (n ∷ ns) = pick (leb n 9) (suc (digits ns)) 0

unfoldable pub only_f : List ℕ → Bool
only_f ns = every (map (eqb 0xF) ns)

unfoldable pub card_number : List ℕ → Bool
card_number v =
    every
    (between 1 10 (length v)
    ∷ leb 1 (digits (halves v))
    ∷ only_f (drop (digits (halves v)) (halves v))
    ∷ [])
