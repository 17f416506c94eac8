-- Reading the records of an AFL one after the other without spelling them out: a cursor says which entry is being read, and
-- how many of its records are done. 01, "The commands": in AFL order.
-- Assumes nothing.
use Rattle.std.specs.Prelude.{Bool, List, [], ◌∷◌, ◌++◌, ℕ, ◌+◌, ◌*◌, leb, ltb, length, drop}
use Rattle.slices.specs.Choice.{pick}
use Rattle.slices.specs.Tests.{every}
use Rattle.answer_afl.specs.Entries.{Entry, first_entry, sfi, records, read_entry, to_read}
use Rattle.answer_afl.specs.declared.cursor.Cursor.{Cursor}

-- the AFL from an entry on, the entries counted from 0
unfoldable pub from_entry : List ℕ → ℕ → List ℕ
from_entry v k = drop (4 * k) v

unfoldable pub entry_at : List ℕ → Cursor → Entry
entry_at v c = first_entry (from_entry v c.entry)

unfoldable pub start : Cursor
start = record { entry = 0; done = 0 }

-- whether a record stands at the cursor
unfoldable pub is_left : List ℕ → Cursor → Bool
is_left v c = every (leb 4 (length (from_entry v c.entry)) ∷ ltb c.done (records (entry_at v c)) ∷ [])

-- that record and its SFI
unfoldable pub record_at : List ℕ → Cursor → ℕ × ℕ
record_at v c = pick (is_left v c) ((entry_at v c).first + c.done, sfi (entry_at v c)) (0, 0)

-- one record on: the entry's next, or the next entry's first. Where no record stands the cursor stays
unfoldable pub stepped : List ℕ → Cursor → Cursor
stepped v c =
    pick (is_left v c)
    (pick (ltb (c.done + 1) (records (entry_at v c)))
    (record { entry = c.entry; done = c.done + 1 })
    (record { entry = c.entry + 1; done = 0 }))
    c

-- what is to be read from the cursor on
unfoldable pub remaining : List ℕ → Cursor → List (ℕ × ℕ)
remaining v c =
    pick (is_left v c) (drop c.done (read_entry (entry_at v c)) ++ to_read (from_entry v (c.entry + 1))) []
