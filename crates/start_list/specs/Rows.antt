-- Names in rows of 18 bytes: a length, a room of 16 bytes that the name stands at the front of, and one byte more. START's list of AIDs
-- has this form (02, R-12). Any bytes have a reading: a length is cut at the room, and bytes that are not there are left out.
-- Assumes nothing.
use Rattle.std.specs.Prelude.{List, [], ◌∷◌, ℕ, zero, suc, take, drop, get_or}

abbrev pub row_size : ℕ
row_size = 18

abbrev pub name_room : ℕ
name_room = 16

-- a row's room, the name in it, and the byte behind it
unfoldable pub room_in : List ℕ → List ℕ
room_in row = take name_room (drop 1 row)

unfoldable pub name_in : List ℕ → List ℕ
name_in row = take (get_or row 0 0) (room_in row)

unfoldable pub mark_in : List ℕ → ℕ
mark_in row = get_or row 17 0

-- the first n rows of some bytes
unfoldable pub rows_in : ℕ → List ℕ → List (List ℕ)
rows_in zero s = []
rows_in (suc n) s = take row_size s ∷ rows_in n (drop row_size s)
