-- START with the terminal's list of applications, 207 bytes: 02, R-12.
-- Assumes nothing.
use Rattle.std.specs.Prelude.{Bool, List, [], ◌∷◌, ◌++◌, ℕ, ◌+◌, eqb, length, take, drop}
use Rattle.slices.specs.Choice.{pick}
use Rattle.slices.specs.Tests.{every}
use Rattle.slices.specs.Writing.{zeros}
use Rattle.start_fields.specs.Layout.{aid_length_at, aid_room, full_length, size_of}
use Rattle.start_fields.specs.declared.fields.Field.TheVariants.{Capabilities}
use Rattle.start_valid.specs.Start.{valid_start}
use Rattle.start_list.specs.Listing.{fields_at}
use Rattle.start_list.specs.Valid.{valid_list}

-- how many bytes it has: this alone tells a START with a list from the others
abbrev pub listing_length : ℕ
listing_length = 207

unfoldable pub is_listing : List ℕ → Bool
is_listing s = eqb (length s) listing_length

-- where Terminal Capabilities stand in it
abbrev pub capabilities_at : ℕ
capabilities_at = 202

-- what it holds beside its list, as a START of 77 bytes that knows the list's first AID alone: bytes 0-56 are the same, then an AID with
-- its length, then Terminal Capabilities
unfoldable pub with_first_alone : List ℕ → List ℕ
with_first_alone s =
    take aid_length_at s ++ (take (aid_room + 1) (drop fields_at s) ++ take (size_of Capabilities) (drop capabilities_at s))

-- the same of any bytes: zeros where they are no such START
unfoldable pub alone_in : List ℕ → List ℕ
alone_in s = pick (is_listing s) (with_first_alone s) (zeros full_length)

-- all that 01 asks of a START is asked of that one, and its list must be valid
unfoldable pub valid_listing : List ℕ → Bool
valid_listing s = every (is_listing s ∷ valid_start (with_first_alone s) ∷ valid_list s ∷ [])
