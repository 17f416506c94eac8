-- Worked lines, character by character, that hold the definition of the line to 01. Each by computation.
-- Assumes nothing.
use mathlib.Core.Path.{◌≡◌, refl, sym}
use mathlib.Core.List.{[], ◌∷◌}
use native.Mathlib.Omega.{arith}
use Rattle.slices.specs.Choice.{pick}
use Rattle.verdict.specs.Saying.{says, finds}
use Rattle.verdict_line.specs.Line.{word_of, digits_of, decimal, field_of, line_of}
use Rattle.verdict.specs.declared.Verdict.TheVariants.{Pass, Fail, Inconclusive, Unreadable}
use Rattle.verdict_line.proofs.Digits.{decimal_within}

-- "INCONCLUSIVE 0 0 0" and a line feed
pub no_input : line_of (finds (says Inconclusive 0 0) 0)
    ≡ 0x49 ∷ 0x4E ∷ 0x43 ∷ 0x4F ∷ 0x4E ∷ 0x43 ∷ 0x4C ∷ 0x55 ∷ 0x53 ∷ 0x49 ∷ 0x56 ∷ 0x45 ∷ 0x20 ∷ 0x30 ∷ 0x20 ∷ 0x30 ∷ 0x20 ∷ 0x30 ∷ 0x0A
    ∷ []
unfolding line_of word_of field_of decimal digits_of pick
no_input = refl

-- "UNREADABLE 0 2 0" and a line feed
pub one_byte : line_of (finds (says Unreadable 0 2) 0)
    ≡ 0x55 ∷ 0x4E ∷ 0x52 ∷ 0x45 ∷ 0x41 ∷ 0x44 ∷ 0x41 ∷ 0x42 ∷ 0x4C ∷ 0x45 ∷ 0x20 ∷ 0x30 ∷ 0x20 ∷ 0x32 ∷ 0x20 ∷ 0x30 ∷ 0x0A ∷ []
unfolding line_of word_of field_of decimal digits_of pick
one_byte = refl

-- "PASS 127 0 12" and a line feed
pub longest_session : line_of (finds (says Pass 127 0) 12)
    ≡ 0x50 ∷ 0x41 ∷ 0x53 ∷ 0x53 ∷ 0x20 ∷ 0x31 ∷ 0x32 ∷ 0x37 ∷ 0x20 ∷ 0x30 ∷ 0x20 ∷ 0x31 ∷ 0x32 ∷ 0x0A ∷ []
unfolding line_of word_of field_of decimal digits_of pick
longest_session = refl

-- "FAIL 10 0 0" and a line feed
pub two_digits_lem : line_of (finds (says Fail 10 0) 0)
    ≡ 0x46 ∷ 0x41 ∷ 0x49 ∷ 0x4C ∷ 0x20 ∷ 0x31 ∷ 0x30 ∷ 0x20 ∷ 0x30 ∷ 0x20 ∷ 0x30 ∷ 0x0A ∷ []
unfolding line_of word_of field_of decimal digits_of pick
two_digits_lem = refl

-- the largest number of 64 bits, 18446744073709551615
pub largest : decimal 18446744073709551615
    ≡ 0x31 ∷ 0x38 ∷ 0x34 ∷ 0x34 ∷ 0x36 ∷ 0x37 ∷ 0x34 ∷ 0x34 ∷ 0x30 ∷ 0x37 ∷ 0x33 ∷ 0x37 ∷ 0x30 ∷ 0x39 ∷ 0x35 ∷ 0x35 ∷ 0x31 ∷ 0x36 ∷ 0x31
    ∷ 0x35 ∷ []
unfolding digits_of pick
largest = sym (decimal_within 19 18446744073709551615 (omega arith))
