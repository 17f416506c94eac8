-- A text that is a decimal number and nothing else.
-- Assumes nothing.
use Rattle.std.specs.Prelude.{◌&&◌, List, [], ◌∷◌, ℕ, ◌+◌, ◌*◌, eqb, ltb, length}
use Rattle.slices.specs.Choice.{pick}
use Rattle.text_hex.specs.Digits.{digit}

-- what is no number of four bytes
abbrev pub no_number : ℕ
no_number = 0x100000000

-- the number n with the decimal digits that follow it
unfoldable pub number_from : ℕ → List ℕ → ℕ
number_from n [] = n
number_from n (b ∷ s) =
    pick (ltb (digit b) 10 && ltb (10 * n + digit b) no_number) (number_from (10 * n + digit b) s) no_number

-- at least one digit, and nothing else
unfoldable pub number_in : List ℕ → ℕ
number_in s = pick (eqb (length s) 0) no_number (number_from 0 s)
