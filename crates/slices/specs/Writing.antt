-- Bytes written into a buffer, and the two ways in which that can end.
-- Assumes nothing.
use Rattle.std.specs.Prelude.{List, ◌++◌, ℕ, ◌+◌, leb, length, take, drop, replicate}
use Rattle.slices.specs.Choice.{pick}

-- the buffer d with the bytes s written from place p on; what stands before and after them is as it was
unfoldable pub put : List ℕ → ℕ → List ℕ → List ℕ
put s p d = take p d ++ (s ++ drop (length s) (drop p d))

-- the same where the bytes fit, and d untouched where they do not
unfoldable pub laid : List ℕ → ℕ → List ℕ → List ℕ
laid s p d = pick (leb (p + length s) (length d)) (put s p d) d

-- n zero bytes
unfoldable pub zeros : ℕ → List ℕ
zeros n = replicate n 0
