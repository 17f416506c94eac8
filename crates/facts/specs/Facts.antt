-- What the card has told, tag by tag, as the rules speak of it; how a session keeps it is no matter here.
-- Assumes nothing.
use Rattle.std.specs.Prelude.{List, ℕ}
use Rattle.std.proofs.Math.Option.{Option, none, some}

-- what is told of each tag, where it is told
abbrev pub Facts : Type 0
Facts = ℕ → Option (List ℕ)

-- the first of two that is there
unfoldable pub or_else : Option (List ℕ) → Option (List ℕ) → Option (List ℕ)
or_else none other = other
or_else (some v) other = some v
