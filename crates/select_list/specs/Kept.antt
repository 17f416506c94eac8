-- The list in lent bytes: two bytes of count, the first counting 256, then a row for each application (`Rows` of `start_list`), whose
-- last byte is where it stands, and 128 more where it wants a confirmation. Bytes that nobody wrote have a reading too: a count is cut at
-- 355 and a name at its room, and any other number of bytes than this is a list of none.
-- Assumes nothing.
use Rattle.std.specs.Prelude.{List, [], map, ℕ, ◌+◌, ◌*◌, ◌%◌, eqb, leb, length, get_or, drop}
use Rattle.slices.specs.Choice.{pick}
use Rattle.start_list.specs.Rows.{name_in, mark_in, rows_in}
use Rattle.select_list.specs.Order.{Candidate}

-- the 255 that are shown, and one for each of the hundred exchanges in which one of them can fall out
abbrev pub most_kept : ℕ
most_kept = 355

abbrev pub list_size : ℕ
list_size = 6392

unfoldable pub candidate_in : List ℕ → Candidate
candidate_in row = record { name = name_in row; standing = mark_in row % 128; confirm = leb 128 (mark_in row) }

-- how many rows count
unfoldable pub count_of : List ℕ → ℕ
count_of d =
    pick (leb (256 * get_or d 0 0 + get_or d 1 0) most_kept) (256 * get_or d 0 0 + get_or d 1 0) most_kept

-- how many the bytes have room for
unfoldable pub room_of : List ℕ → ℕ
room_of d = pick (eqb (length d) list_size) most_kept 0

unfoldable pub kept_in : List ℕ → List (List ℕ)
kept_in d = pick (eqb (length d) list_size) (rows_in (count_of d) (drop 2 d)) []

unfoldable pub list_in : List ℕ → List Candidate
list_in d = map candidate_in (kept_in d)

-- the one at a place, from 0; past the last one an empty name that stands nowhere
unfoldable pub candidate_at : List Candidate → ℕ → Candidate
candidate_at l i = get_or l i (candidate_in [])
