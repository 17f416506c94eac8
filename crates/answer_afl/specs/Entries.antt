-- The application file locator (AFL): which records the card wants read. 01, "What the card must answer", reasons 6 and 7.
-- Assumes nothing.
use Rattle.std.specs.Prelude.{◌≡◌, Bool, List, [], ◌∷◌, ◌++◌, map, ℕ, zero, suc, ◌+◌}
use Rattle.std.specs.Prelude.{◌*◌, ◌-◌, ◌/◌, ◌%◌, ◌≤◌, leb, ltb, eqb, length, get_or}
use Rattle.slices.specs.Tests.{every, between}

-- one entry: the byte that names the file, its first and last record, and how many of those data authentication takes
pub record Entry : Type 0 where
  pub file : ℕ
  pub first : ℕ
  pub last : ℕ
  pub signed : ℕ

-- the entry at the front of some bytes
unfoldable pub first_entry : List ℕ → Entry
first_entry s = record { file = get_or s 0 0; first = get_or s 1 0; last = get_or s 2 0; signed = get_or s 3 0 }

-- four bytes to an entry; bytes that are left over make none
unfoldable pub entries : List ℕ → List Entry
entries [] = []
entries (a ∷ []) = []
entries (a ∷ b ∷ []) = []
entries (a ∷ b ∷ c ∷ []) = []
entries (a ∷ b ∷ c ∷ d ∷ rest) = first_entry (a ∷ b ∷ c ∷ d ∷ []) ∷ entries rest

-- a whole number of entries, one at least
unfoldable pub whole_entries : List ℕ → Bool
whole_entries v = every (leb 4 (length v) ∷ eqb (length v % 4) 0 ∷ [])

-- so many bytes, and 4n more, n from 1
abbrev pub AndEntries : ℕ → List ℕ → Type 0
AndEntries k v = (n : ℕ) × (1 ≤ n) × (length v ≡ k + 4 * n)

-- the file's short identifier
unfoldable pub sfi : Entry → ℕ
sfi e = e.file / 8

unfoldable pub records : Entry → ℕ
records e = e.last - e.first + 1

-- low three bits zero, and SFI 1-10
unfoldable pub file_right : ℕ → Bool
file_right file = every (eqb (file % 8) 0 ∷ between 1 10 (file / 8) ∷ [])

unfoldable pub entry_right : Entry → Bool
entry_right e =
    every (file_right e.file ∷ leb 1 e.first ∷ leb e.first e.last ∷ leb e.signed (records e) ∷ [])

unfoldable pub entries_right : List ℕ → Bool
entries_right v = every (map entry_right (entries v))

-- the most records in all (house; 02, R-8)
abbrev pub most_records : ℕ
most_records = 500

unfoldable pub records_of : List Entry → ℕ
records_of [] = 0
records_of (e ∷ es) = records e + records_of es

unfoldable pub record_count : List ℕ → ℕ
record_count v = records_of (entries v)

unfoldable pub too_many : List ℕ → Bool
too_many v = ltb most_records (record_count v)

-- so many records of a file, from number n on
unfoldable pub run : ℕ → ℕ → ℕ → List (ℕ × ℕ)
run file n zero = []
run file n (suc k) = (n, file) ∷ run file (suc n) k

unfoldable pub read_entry : Entry → List (ℕ × ℕ)
read_entry e = run (sfi e) e.first (records e)

unfoldable pub read_all : List Entry → List (ℕ × ℕ)
read_all [] = []
read_all (e ∷ es) = read_entry e ++ read_all es

-- what is to be read, in order: record and SFI
unfoldable pub to_read : List ℕ → List (ℕ × ℕ)
to_read v = read_all (entries v)
