-- A number at the start of a text, in decimal or in hexadecimal digits.
-- Assumes nothing.
use Rattle.std.specs.Prelude.{◌&&◌, List, [], ◌∷◌, ℕ, ◌+◌, ◌*◌, ltb, leb}
use Rattle.slices.specs.Choice.{pick}
use Rattle.text_hex.specs.Digits.{digit}

-- the number n with the digits of a base that follow it. It ends before what is no digit of the base, and before a
-- digit that would take it past the most that is allowed
unfoldable pub continued : ℕ → ℕ → ℕ → List ℕ → ℕ
continued base most n [] = n
continued base most n (b ∷ s) =
    pick (ltb (digit b) base && leb (base * n + digit b) most) (continued base most (base * n + digit b) s) n

abbrev pub decimal_number : List ℕ → ℕ
decimal_number s = continued 10 1000000000 0 s

abbrev pub hex_number : List ℕ → ℕ
hex_number s = continued 16 0xFFFFFFFF 0 s
