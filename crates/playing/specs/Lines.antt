-- What a line of `play` asks, and what is wrong with one that asks nothing.
-- Assumes nothing.
use Rattle.std.specs.Prelude.{Bool, true, false, List, [], ◌∷◌, ℕ, ◌%◌, eqb, ltb, length, Option, Some, None, Result, Ok, Err}
use Rattle.slices.specs.Choice.{pick}
use Rattle.text_hex.specs.Digits.{digit}
use Rattle.numbers.specs.Tables.{start, answer, silence, host, results}
use Rattle.playing.specs.declared.line.Fault.{Fault}
use Rattle.playing.specs.declared.line.Fault.TheVariants.{Unknown, TextAfter, NoDigits, Odd}

-- whether w is the first word of a line: a space follows it, or nothing
unfoldable pub named : List ℕ → List ℕ → Bool
named [] [] = true
named [] (b ∷ s) = eqb b 0x20
named (x ∷ w) [] = false
named (x ∷ w) (b ∷ s) = pick (eqb b x) (named w s) false

-- the kind of the event that the first word names, START, ANSWER, SILENCE, HOST or RESULTS; none for any other word
unfoldable pub kind_of : List ℕ → Option ℕ
kind_of s =
    pick (named (0x53 ∷ 0x54 ∷ 0x41 ∷ 0x52 ∷ 0x54 ∷ []) s) (Some start)
    (pick (named (0x41 ∷ 0x4E ∷ 0x53 ∷ 0x57 ∷ 0x45 ∷ 0x52 ∷ []) s) (Some answer)
    (pick (named (0x53 ∷ 0x49 ∷ 0x4C ∷ 0x45 ∷ 0x4E ∷ 0x43 ∷ 0x45 ∷ []) s) (Some silence)
    (pick (named (0x48 ∷ 0x4F ∷ 0x53 ∷ 0x54 ∷ []) s) (Some host)
    (pick (named (0x52 ∷ 0x45 ∷ 0x53 ∷ 0x55 ∷ 0x4C ∷ 0x54 ∷ 0x53 ∷ []) s) (Some results) None))))

-- nothing but hexadecimal digits
unfoldable pub all_digits : List ℕ → Bool
all_digits [] = true
all_digits (b ∷ s) = pick (ltb (digit b) 16) (all_digits s) false

-- the kind, where the text behind its word is in order; or what is wrong. No digits are an empty payload, of which the kernel says what
-- is due
unfoldable pub asked : Option ℕ → List ℕ → Result ℕ Fault
asked None rest = Err Unknown
asked (Some kind) rest =
    pick (eqb (length rest) 0) (Ok kind)
    (pick (eqb kind silence) (Err TextAfter)
    (pick (all_digits rest) (pick (eqb (length rest % 2) 0) (Ok kind) (Err Odd)) (Err NoDigits)))
