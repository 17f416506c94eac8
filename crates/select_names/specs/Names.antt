-- Matching the terminal's applications to the card's: 001, 12.3.1. A name is what a directory entry has in 4F, or an FCI in 84.
-- Assumes nothing.
use Rattle.std.specs.Prelude.{Bool, List, map, ℕ, length, take}
use Rattle.slices.specs.Choice.{pick}
use Rattle.slices.specs.Tests.{alike}
use Rattle.slices.specs.Tables.{any_of}
use Rattle.start_list.specs.Listing.{Listed, Applications}

-- whether a name begins with the entire AID; one that equals it does
unfoldable pub begins_with : List ℕ → List ℕ → Bool
begins_with aid name = alike aid (take (length aid) name)

-- by the Application Selection Indicator: the same length and value, or only the beginning
unfoldable pub matches : List ℕ → Listed → Bool
matches name l = pick l.partial (begins_with l.aid name) (alike l.aid name)

-- whether one of the applications that the terminal supports matches
unfoldable pub supported : Applications → List ℕ → Bool
supported t name = any_of (map (matches name) t.list)
