-- Where a line or a word of a text ends.
-- Assumes nothing.
use Rattle.std.specs.Prelude.{◌||◌, List, [], ◌∷◌, ℕ, suc, ◌+◌, ◌-◌, ◌≤◌, eqb, length, drop}
use Rattle.slices.specs.Choice.{pick}

-- how many bytes stand before the first that is a or b; where none is, all of them
unfoldable pub before : ℕ → ℕ → List ℕ → ℕ
before a b [] = 0
before a b (x ∷ s) = pick (eqb x a || eqb x b) 0 (suc (before a b s))

-- the place of the first a or b at or after a place, or the end; past the end the place itself
unfoldable pub first_either : ℕ → ℕ → List ℕ → ℕ → ℕ
first_either a b s at = at + before a b (drop at s)

-- what is sure of such a place: it is not before `at`, and lies within the text where `at` does
abbrev pub Onward : List ℕ → ℕ → ℕ → Type 0
Onward s at r = (at ≤ r) × (r ≤ at + (length s - at))

-- a line ends at a line feed
abbrev pub line_end : List ℕ → ℕ → ℕ
line_end s at = first_either 0x0A 0x0A s at

-- a word ends at a space or with its line
abbrev pub word_end : List ℕ → ℕ → ℕ
word_end s at = first_either 0x20 0x0A s at

-- what stands behind the first word and the byte that ends it
unfoldable pub after_word : List ℕ → List ℕ
after_word s = drop (word_end s 0 + 1) s
