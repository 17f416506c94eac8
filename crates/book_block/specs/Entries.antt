-- What is entered in the campaign book: a tape's number, and the verdict, the place and the code that the judge gave (02, R-11).
-- Assumes nothing.
use Rattle.std.specs.Prelude.{Bool, true, ◌&&◌, List, [], ◌∷◌, ℕ, ◌^◌, leb, ltb}
use Rattle.book_block.specs.declared.Entry.{Entry}

-- the four verdicts as numbers (house)
abbrev pub pass : ℕ
pass = 1

abbrev pub fail : ℕ
fail = 2

abbrev pub inconclusive : ℕ
inconclusive = 3

abbrev pub unreadable : ℕ
unreadable = 4

-- one of the four
unfoldable pub is_verdict : ℕ → Bool
is_verdict v = leb pass v && leb v unreadable

abbrev pub made : ℕ → ℕ → ℕ → ℕ → Entry
made tape verdict place code = record { tape = tape; verdict = verdict; place = place; code = code }

-- a number of four bytes
unfoldable pub is_long : ℕ → Bool
is_long n = ltb n (2 ^ 32)

-- an entry as it can be handed in: tape number, place and code have four bytes each; the verdict may be any number
unfoldable pub fits : Entry → Bool
fits e = is_long e.tape && (is_long e.place && is_long e.code)

unfoldable pub all_fit : List Entry → Bool
all_fit [] = true
all_fit (e ∷ es) = fits e && all_fit es
