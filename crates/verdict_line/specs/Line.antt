-- The line that says a verdict (01, "The tape": verdict, place, code, and a line feed; 02, R-6: the number of list entries filled with
-- zeros behind the code).
-- Assumes nothing.
use Rattle.std.specs.Prelude.{List, [], ◌∷◌, ◌++◌, ℕ, zero, suc, ◌+◌, ◌/◌, ◌%◌, leb, ltb, length}
use Rattle.slices.specs.Choice.{pick}
use Rattle.verdict.specs.declared.Verdict.{Verdict}
use Rattle.verdict.specs.declared.Verdict.TheVariants.{Pass, Fail, Inconclusive, Unreadable}
use Rattle.verdict.specs.declared.Finding.{Finding}

-- PASS, FAIL, INCONCLUSIVE, UNREADABLE
unfoldable pub word_of : Verdict → List ℕ
word_of Pass = 0x50 ∷ 0x41 ∷ 0x53 ∷ 0x53 ∷ []
word_of Fail = 0x46 ∷ 0x41 ∷ 0x49 ∷ 0x4C ∷ []
word_of Inconclusive = 0x49 ∷ 0x4E ∷ 0x43 ∷ 0x4F ∷ 0x4E ∷ 0x43 ∷ 0x4C ∷ 0x55 ∷ 0x53 ∷ 0x49 ∷ 0x56 ∷ 0x45 ∷ []
word_of Unreadable = 0x55 ∷ 0x4E ∷ 0x52 ∷ 0x45 ∷ 0x41 ∷ 0x44 ∷ 0x41 ∷ 0x42 ∷ 0x4C ∷ 0x45 ∷ []

-- a number's decimal digits, at most so many: the last one, after those of the tenth part where there is one
unfoldable pub digits_of : ℕ → ℕ → List ℕ
digits_of zero n = []
digits_of (suc most) n = pick (ltb n 10) ((0x30 + n) ∷ []) (digits_of most (n / 10) ++ ((0x30 + n % 10) ∷ []))

-- no number n has more than n + 1
unfoldable pub decimal : ℕ → List ℕ
decimal n = digits_of (suc n) n

-- a space, and a number
unfoldable pub field_of : ℕ → List ℕ
field_of n = 0x20 ∷ decimal n

unfoldable pub line_of : Finding → List ℕ
line_of f =
    word_of f.ruling.verdict ++ (field_of f.ruling.place ++ (field_of f.ruling.code ++ (field_of f.zeros ++ (0x0A ∷ []))))

-- how many bytes of a buffer the line takes: none where it has no room, and then it is not written
unfoldable pub line_size : ℕ → Finding → ℕ
line_size room a = pick (leb (length (line_of a)) room) (length (line_of a)) 0
