-- Numbers that are written in decimal digits, two to a byte: 01's n12, and its dates.
-- Assumes nothing.
use Rattle.std.specs.Prelude.{Bool, List, [], ◌∷◌, map, ℕ, ◌+◌, ◌*◌, ◌/◌, ◌%◌, leb, eqb}
use Rattle.slices.specs.Tests.{every}

-- a byte's halves as two digits; a half above 9 counts as it stands, so that every byte has a number
abbrev pub two_digits : ℕ → ℕ
two_digits b = b / 16 * 10 + b % 16

-- the number so far, and the digits that follow it
unfoldable pub decimal_from : ℕ → List ℕ → ℕ
decimal_from n [] = n
decimal_from n (b ∷ bs) = decimal_from (n * 100 + two_digits b) bs

unfoldable pub decimal : List ℕ → ℕ
decimal s = decimal_from 0 s

-- what six bytes stay below, whatever they hold: the largest is twelve halves of 15
abbrev pub six_bytes_limit : ℕ
six_bytes_limit = 1700000000000

-- both halves are digits from 0 to 9
unfoldable pub decimal_byte : ℕ → Bool
decimal_byte b = every (leb (b / 16) 9 ∷ leb (b % 16) 9 ∷ [])

unfoldable pub digits_only : List ℕ → Bool
digits_only s = every (map decimal_byte s)

unfoldable pub zeros_only : List ℕ → Bool
zeros_only s = every (map (λ b. eqb b 0) s)
