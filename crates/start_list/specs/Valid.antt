-- Which lists of applications are valid in START: 02, R-12.
-- Assumes nothing.
use Rattle.std.specs.Prelude.{Bool, List, [], ◌∷◌, map, ℕ, ◌*◌, leb, eqb, drop, get_or}
use Rattle.slices.specs.Tests.{every, between}
use Rattle.decimal_dates.specs.Decimal.{zeros_only}
use Rattle.start_list.specs.Rows.{row_size, name_room, room_in, mark_in, rows_in}
use Rattle.start_list.specs.Listing.{count_at, most_listed, choice_at, edition_at, count_in, fields_in}

-- a field that is used: an AID of 5-16 bytes, zeros after it, 0 exact or 1 partial
unfoldable pub valid_field : List ℕ → Bool
valid_field row =
    every (between 5 name_room (get_or row 0 0) ∷ zeros_only (drop (get_or row 0 0) (room_in row)) ∷ leb (mark_in row) 1 ∷ [])

-- 1 to 8 AIDs; each used field valid, the others all zero; whether the shopper can choose is 0 or 1; edition 1
abbrev pub list_tests : List ℕ → List Bool
list_tests s =
    between 1 most_listed (get_or s count_at 0)
    ∷ every (map valid_field (rows_in (count_in s) (fields_in s)))
    ∷ zeros_only (drop (row_size * count_in s) (fields_in s))
    ∷ leb (get_or s choice_at 0) 1
    ∷ eqb (get_or s edition_at 0) 1
    ∷ []

unfoldable pub valid_list : List ℕ → Bool
valid_list s = every (list_tests s)
