-- Worked AFLs that hold the definitions to document 01, each by computation: every limit from both sides, and cases G, H, I
-- of its bench.
-- Assumes nothing.
use mathlib.Core.Path.{◌≡◌, refl}
use mathlib.Core.Bool.{Bool, true, false}
use mathlib.Core.List.{List, [], ◌∷◌, map}
use Prim.Native.Nat.{ℕ}
use lib.ListN.{replicate}
use Rattle.slices.specs.Choice.{pick}
use Rattle.slices.specs.Tests.{every, between}
use Rattle.answer_afl.specs.Entries.{first_entry, entries, whole_entries, sfi, records, file_right, entry_right}
use Rattle.answer_afl.specs.Entries.{entries_right, records_of, record_count, too_many, run, read_entry, read_all, to_read}
use Rattle.answer_afl.specs.Cursor.{from_entry, entry_at, start, is_left, record_at, stepped}

-- four bytes to an entry, one entry at least
sizes : map (λ n. whole_entries (replicate n 0)) (0 ∷ 3 ∷ 4 ∷ 5 ∷ 6 ∷ 8 ∷ 252 ∷ [])
    ≡ false ∷ false ∷ true ∷ false ∷ false ∷ true ∷ true ∷ []
unfolding whole_entries every pick
sizes = refl

-- an entry, and whether it is right
abbrev rows : List (List ℕ × Bool)
rows =
    (0x08 ∷ 1 ∷ 3 ∷ 1 ∷ [], true)
    -- low three bits
    ∷ (0x09 ∷ 1 ∷ 3 ∷ 1 ∷ [], false) ∷ (0x0A ∷ 1 ∷ 3 ∷ 1 ∷ [], false) ∷ (0x0C ∷ 1 ∷ 3 ∷ 1 ∷ [], false)
    -- SFI 1-10
    ∷ (0x00 ∷ 1 ∷ 3 ∷ 1 ∷ [], false) ∷ (0x50 ∷ 1 ∷ 3 ∷ 1 ∷ [], true) ∷ (0x58 ∷ 1 ∷ 3 ∷ 1 ∷ [], false) ∷ (0xF8 ∷ 1 ∷ 3 ∷ 1 ∷ [], false)
    -- first record, and last
    ∷ (0x08 ∷ 0 ∷ 1 ∷ 0 ∷ [], false) ∷ (0x08 ∷ 1 ∷ 1 ∷ 0 ∷ [], true) ∷ (0x08 ∷ 255 ∷ 255 ∷ 1 ∷ [], true)
    ∷ (0x08 ∷ 2 ∷ 1 ∷ 0 ∷ [], false) ∷ (0x08 ∷ 2 ∷ 1 ∷ 1 ∷ [], false) ∷ (0x08 ∷ 0 ∷ 0 ∷ 0 ∷ [], false)
    -- fourth byte
    ∷ (0x08 ∷ 1 ∷ 3 ∷ 0 ∷ [], true) ∷ (0x08 ∷ 1 ∷ 3 ∷ 3 ∷ [], true) ∷ (0x08 ∷ 1 ∷ 3 ∷ 4 ∷ [], false) ∷ (0x08 ∷ 4 ∷ 4 ∷ 2 ∷ [], false)
    -- every entry counts
    ∷ (0x08 ∷ 1 ∷ 3 ∷ 1 ∷ 0x10 ∷ 1 ∷ 1 ∷ 0 ∷ [], true) ∷ (0x08 ∷ 1 ∷ 3 ∷ 1 ∷ 0x10 ∷ 0 ∷ 1 ∷ 0 ∷ [], false)
    ∷ (0x08 ∷ 0 ∷ 3 ∷ 1 ∷ 0x10 ∷ 1 ∷ 1 ∷ 0 ∷ [], false)
    -- an empty AFL names nothing, and bytes that make no entry do not either
    ∷ ([], true) ∷ (0x09 ∷ 0 ∷ 0 ∷ [], true)
    ∷ []

judged : map (λ row. entries_right row.0) rows ≡ map (λ row. row.1) rows
unfolding entries_right entries first_entry every pick between file_right entry_right sfi records
judged = refl

-- how many records, and whether that is too many
counts : map record_count
    ((0x08 ∷ 1 ∷ 3 ∷ 1 ∷ []) ∷ (0x08 ∷ 1 ∷ 0x3A ∷ 0 ∷ []) ∷ (0x08 ∷ 1 ∷ 0xFF ∷ 0 ∷ []) ∷ (0x08 ∷ 1 ∷ 0xFA ∷ 0 ∷ 0x10 ∷ 1 ∷ 0xFB ∷ 0 ∷ [])
    ∷ [] ∷ []) ≡ 3 ∷ 58 ∷ 255 ∷ 501 ∷ 0 ∷ []
unfolding record_count records_of entries first_entry records
counts = refl

-- (02, R-8: 500; a number is one byte, so that a file has at most 255)
limit : map too_many
    ((0x08 ∷ 1 ∷ 0x3B ∷ 0 ∷ []) ∷ (0x08 ∷ 1 ∷ 0xFF ∷ 0 ∷ []) ∷ (0x08 ∷ 1 ∷ 0xFA ∷ 0 ∷ 0x10 ∷ 1 ∷ 0xFA ∷ 0 ∷ [])
    ∷ (0x08 ∷ 1 ∷ 0xFA ∷ 0 ∷ 0x10 ∷ 1 ∷ 0xFB ∷ 0 ∷ []) ∷ [] ∷ [])
    ≡ false ∷ false ∷ false ∷ true ∷ false ∷ []
unfolding too_many record_count records_of entries first_entry records
limit = refl

-- in AFL order; a record that two entries name is read twice
order : to_read (0x08 ∷ 1 ∷ 3 ∷ 1 ∷ 0x10 ∷ 5 ∷ 5 ∷ 0 ∷ 0x08 ∷ 3 ∷ 4 ∷ 0 ∷ []) ≡ (1, 1) ∷ (2, 1) ∷ (3, 1) ∷ (5, 2) ∷ (3, 1) ∷ (4, 1) ∷ []
unfolding to_read read_all read_entry run entries first_entry sfi records
order = refl

-- the cursor goes from the last record of an entry to the first of the next, and stops after the last entry
abbrev two : List ℕ
two = 0x08 ∷ 1 ∷ 2 ∷ 1 ∷ 0x10 ∷ 5 ∷ 5 ∷ 0 ∷ []

steps : (record_at two start ≡ (1, 1)) × (record_at two (stepped two start) ≡ (2, 1))
    × (record_at two (stepped two (stepped two start)) ≡ (5, 2)) × (is_left two (stepped two (stepped two (stepped two start))) ≡ false)
unfolding record_at start stepped is_left entry_at from_entry first_entry every pick sfi records
steps = (refl, refl, refl, refl)
