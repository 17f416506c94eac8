-- What an object list asks for: tags, by the rule of data objects, each with one length byte. 01, "The commands";
-- 000, II-1.4.
-- Assumes nothing.
use Rattle.std.specs.Prelude.{Bool, false, ◌&&◌, List, [], ◌∷◌, ℕ, ◌+◌, eqb, leb, length, get_or, drop}
use Rattle.std.proofs.Math.Option.{Option, none, some}
use Rattle.slices.specs.Choice.{pick}
use Rattle.slices.specs.Shorter.{shorter}
use Rattle.tlv_head.specs.Head.{tag_of, tag_right, tag_size}

pub record Wanted : Type 0 where
  pub tag : ℕ
  pub size : ℕ

-- one that asks for something, before the others, where those are well formed
unfoldable pub and_then : Wanted → Option (List Wanted) → Option (List Wanted)
and_then w none = none
and_then w (some ws) = some (w ∷ ws)

-- the length byte after the tag
unfoldable pub size_at : List ℕ → ℕ
size_at s = get_or s (tag_size s) 0

unfoldable pub first_wanted : List ℕ → Wanted
first_wanted s = record { tag = tag_of s; size = size_at s }

-- a legal tag stands at the front, and its length byte after it. '00' is no tag, and means nothing only between objects
unfoldable pub asks : List ℕ → Bool
asks s = tag_right s && leb (tag_size s + 1) (length s)

unfoldable pub wanted_step : (List ℕ → Option (List Wanted)) → List ℕ → Option (List Wanted)
wanted_step entries s =
    pick (eqb (length s) 0) (some [])
    (pick (asks s) (and_then (first_wanted s) (entries (drop (tag_size s + 1) s))) none)

-- the entries of a list, in order; none where the bytes are no object list
unfoldable pub entries_of : List ℕ → Option (List Wanted)
entries_of = shorter wanted_step none

-- how many bytes are asked for
unfoldable pub total : List Wanted → ℕ
total [] = 0
total (w ∷ ws) = w.size + total ws

unfoldable pub total_by : Option (List Wanted) → ℕ
total_by none = 0
total_by (some ws) = total ws

unfoldable pub total_of : List ℕ → ℕ
total_of s = total_by (entries_of s)

-- the most that may be asked for
abbrev pub most : ℕ
most = 252

-- well formed, and not asking for too much: what 01's reason 9 refuses is the rest
unfoldable pub fits : Option (List Wanted) → Bool
fits none = false
fits (some ws) = leb (total ws) most

unfoldable pub fillable : List ℕ → Bool
fillable s = fits (entries_of s)

-- the bytes asked for; one more than may be, where the list cannot be filled
unfoldable pub tally : List ℕ → ℕ
tally s = pick (fillable s) (total_of s) (most + 1)
