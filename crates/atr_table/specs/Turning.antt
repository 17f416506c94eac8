-- The inverse convention (000, I-4.3.1): the low state is a one, and the highest bit is sent first. A capture holds the line's
-- bits as the direct convention would have them, so a line byte has the data byte's bits in opposite order, all complemented.
-- Assumes nothing.
use Rattle.std.specs.Prelude.{◌≡◌, List, ℕ, zero, suc, ◌+◌, ◌-◌, ◌*◌, ◌/◌, ◌%◌, ◌^◌, ◌<◌, length, get_or}

-- the lowest n bits in opposite order
unfoldable pub opposite : ℕ → ℕ → ℕ
opposite zero b = 0
opposite (suc n) b = b % 2 * 2 ^ n + opposite n (b / 2)

-- the eight bits of a byte in opposite order, and all of them complemented
unfoldable pub turned : ℕ → ℕ
turned b = 255 - opposite 8 b

-- the rule of a stored table: 256 entries, each of which is its index turned
pub record TurnedTable (t : List ℕ) : Type 0 where
  pub size : length t ≡ 256
  pub entries : (k : ℕ) → k < 256 → get_or t k 0 ≡ turned k
