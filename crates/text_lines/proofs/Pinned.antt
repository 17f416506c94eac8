-- Worked texts that hold the definitions to what a reader expects of ends and numbers: each by computation.
-- Assumes nothing.
use mathlib.Core.Path.{◌≡◌, refl}
use mathlib.Core.List.{[], ◌∷◌}
use Rattle.slices.specs.Choice.{pick}
use Rattle.text_lines.specs.Lines.{before, first_either, line_end, word_end, after_word}
use Rattle.text_hex.specs.Digits.{among, digit}
use Rattle.text_lines.specs.Numbers.{continued, decimal_number, hex_number}

-- "A B", a line feed, "C"
ends : (line_end (0x41 ∷ 0x20 ∷ 0x42 ∷ 0x0A ∷ 0x43 ∷ []) 0 ≡ 3)
    × (word_end (0x41 ∷ 0x20 ∷ 0x42 ∷ 0x0A ∷ 0x43 ∷ []) 0 ≡ 1)
    × (word_end (0x41 ∷ 0x20 ∷ 0x42 ∷ 0x0A ∷ 0x43 ∷ []) 2 ≡ 3)
    × (line_end (0x41 ∷ 0x20 ∷ 0x42 ∷ 0x0A ∷ 0x43 ∷ []) 4 ≡ 5)
    × (line_end (0x41 ∷ 0x20 ∷ 0x42 ∷ 0x0A ∷ 0x43 ∷ []) 9 ≡ 9)
unfolding first_either before pick
ends = (refl, refl, refl, refl, refl)

-- "A B" and "A"
words : (after_word (0x41 ∷ 0x20 ∷ 0x42 ∷ []) ≡ 0x42 ∷ []) × (after_word (0x41 ∷ []) ≡ []) × (after_word [] ≡ [])
unfolding after_word first_either before pick
words = (refl, refl, refl)

-- "130 7", "1f", and a number that a further digit would take past the most
numbers : (decimal_number (0x31 ∷ 0x33 ∷ 0x30 ∷ 0x20 ∷ 0x37 ∷ []) ≡ 130)
    × (decimal_number (0x31 ∷ 0x66 ∷ []) ≡ 1)
    × (hex_number (0x31 ∷ 0x66 ∷ []) ≡ 31)
    × (continued 10 100 10 (0x31 ∷ []) ≡ 10)
    × (continued 10 100 10 (0x30 ∷ []) ≡ 100)
unfolding continued digit among pick
numbers = (refl, refl, refl, refl, refl)
