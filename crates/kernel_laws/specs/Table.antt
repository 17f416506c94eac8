-- 01, "When a call is turned away", and 02, R-7: the number of a call is that of the first line of the table that applies to it.
-- Assumes nothing.
use Rattle.std.specs.Prelude.{◌≡◌, Bool, true, false, List, map, ℕ, ◌<◌, get_or}
use Rattle.kernel_refusals.specs.Refusals.{refusal_lines}
use Rattle.kernel.specs.declared.Session.{Session}
use Rattle.kernel_laws.specs.Log.{Call}

-- whether each line applies to a call
unfoldable pub table_of : Session → Call → List Bool
table_of s c = map (λ line. line.0) (refusal_lines s.state.waiting c.event c.buffer)

-- the number beside each line
unfoldable pub numbers_of : Session → Call → List ℕ
numbers_of s c = map (λ line. line.1) (refusal_lines s.state.waiting c.event c.buffer)

-- a line applies, and none before it
pub record FirstLine (table : List Bool) (line : ℕ) : Type 0 where
  pub applies : get_or table line false ≡ true
  pub alone : (n : ℕ) → n < line → get_or table n false ≡ false

-- no line applies
abbrev pub NoLine : List Bool → Type 0
NoLine table = (n : ℕ) → get_or table n false ≡ false
