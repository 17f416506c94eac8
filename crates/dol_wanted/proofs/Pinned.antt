-- Worked lists that hold the definitions to document 01, each by computation.
-- Assumes nothing.
use mathlib.Core.Path.{◌≡◌, refl}
use mathlib.Core.Bool.{Bool, true, false}
use mathlib.Core.List.{List, [], ◌∷◌}
use mathlib.Core.Option.{Option, none, some}
use Prim.Native.Nat.{ℕ}
use Rattle.slices.specs.Choice.{pick}
use Rattle.slices.specs.Shorter.{counted, shorter}
use Rattle.tlv_head.specs.Head.{two_bytes, tag_size, tag_of, tag_right}
use Rattle.dol_wanted.specs.Wanted.{Wanted, and_then, size_at, first_wanted, asks, wanted_step, entries_of, total, fits, fillable}

-- `entries_of` and `fillable`, with all that they rest on open
asked : List ℕ → Option (List Wanted)
unfolding pick counted shorter two_bytes tag_size tag_of tag_right size_at first_wanted asks and_then wanted_step entries_of
asked s = entries_of s

usable : List ℕ → Bool
unfolding asked total fits fillable
usable s = fillable s

-- tags of one and two bytes; a length byte above '7F' is a length like any other
entries : asked (0x9F ∷ 0x02 ∷ 0x06 ∷ 0x95 ∷ 0x81 ∷ []) ≡ some (record { tag = 0x9F02; size = 6 } ∷ record { tag = 0x95; size = 0x81 } ∷ [])
unfolding asked
entries = refl

-- nothing is asked for by no bytes; '00' is no tag; a tag without its length byte, and one that is none, are no entries
no_entries : (asked [] ≡ some []) × (asked (0x00 ∷ 0x01 ∷ []) ≡ none) × (asked (0x95 ∷ []) ≡ none)
    × (asked (0x9F ∷ 0x80 ∷ 0x01 ∷ []) ≡ none)
unfolding asked
no_entries = (refl, refl, refl, refl)

-- at most 252 bytes in all
limits : (usable (0x95 ∷ 252 ∷ []) ≡ true) × (usable (0x95 ∷ 253 ∷ []) ≡ false) × (usable (0x95 ∷ 250 ∷ 0x9B ∷ 2 ∷ []) ≡ true)
    × (usable (0x95 ∷ 250 ∷ 0x9B ∷ 3 ∷ []) ≡ false) × (usable (0x00 ∷ 0x00 ∷ []) ≡ false)
unfolding usable
limits = (refl, refl, refl, refl, refl)
