-- A tape handed in piece by piece (02, R-8): a piece of 512 bytes is a block, any other the tail, and nothing behind a tail is looked
-- at. A tail of no bytes is none. Codes 1 and 2 (01, "The tape") are known only where the tape ends, and go before all others.
-- Assumes nothing.
use Rattle.std.specs.Prelude.{Bool, true, false, List, [], ◌∷◌, ℕ, ◌+◌, ◌/◌, eqb, ltb, length}
use Rattle.slices.specs.Choice.{pick}
use Rattle.numbers.specs.Tables.{code_long, code_torn}
use Rattle.tape_read.specs.Entries.{Entry, block_size, blocks_most}
use Rattle.tape_read.specs.Blocks.{session_in, code_of, entry_in}
use Rattle.tape_read.specs.Tapes.{Reading, entries, unreadable, cut}
use Rattle.tape_feed.specs.declared.Reader.{Reader}
use Rattle.tape_feed.specs.declared.Taken.{Taken}
use Rattle.tape_feed.specs.declared.Damage.{Damage}

abbrev pub begun : Reader
begun = record { blocks = 0; session = 0; place = 0; code = 0; torn = false }

-- the session number of a tape is that of block 0
unfoldable pub session_due : Reader → List ℕ → ℕ
session_due r b = pick (eqb r.blocks 0) (session_in b) r.session

-- a block is looked at while none was bad, and is the first bad one if its code is not 0
abbrev pub looked : Reader → List ℕ → Reader
looked r b =
    record {
      blocks = r.blocks + 1;
      session = session_due r b;
      place = r.blocks;
      code = code_of r.blocks (session_due r b) b;
      torn = r.torn;
    }

-- a block after a bad one
abbrev pub passed : Reader → Reader
passed r = record { blocks = r.blocks + 1; session = r.session; place = r.place; code = r.code; torn = r.torn }

-- the tail
abbrev pub ended : Reader → List ℕ → Reader
ended r piece = record { blocks = r.blocks; session = r.session; place = r.place; code = r.code; torn = ltb 0 (length piece) }

abbrev pub unread : Reader → Taken
unread r = record { reader = r; good = false }

abbrev pub read : Reader → Taken
read r = record { reader = r; good = eqb r.code 0 }

-- one piece further. Blocks are counted up to one more than the most: the rest of so long a tape is not looked at
unfoldable pub next : Reader → List ℕ → Taken
next r piece =
    pick r.torn (unread r)
    (pick (ltb blocks_most r.blocks) (unread r)
    (pick (eqb (length piece) block_size) (pick (eqb r.code 0) (read (looked r piece)) (unread (passed r)))
    (unread (ended r piece))))

-- more blocks than the most, or as many and a tail
unfoldable pub too_long : Reader → Bool
too_long r = pick (ltb blocks_most r.blocks) true (pick (ltb r.blocks blocks_most) false r.torn)

abbrev pub damaged : ℕ → ℕ → Damage
damaged place code = record { place = place; code = code }

-- what makes the tape unreadable, where it ends here; code 0: nothing
unfoldable pub damage_of : Reader → Damage
damage_of r = pick (too_long r) (damaged 0 code_long) (pick r.torn (damaged r.blocks code_torn) (damaged r.place r.code))

-- ---- pieces in a row

unfoldable pub reader_after : Reader → List (List ℕ) → Reader
reader_after r [] = r
reader_after r (p ∷ ps) = reader_after (next r p).reader ps

-- what the good blocks hold
unfoldable pub entries_read : Reader → List (List ℕ) → List Entry
entries_read r [] = []
entries_read r (p ∷ ps) = pick (next r p).good (entry_in p ∷ entries_read (next r p).reader ps) (entries_read (next r p).reader ps)

unfoldable pub reading_of : Damage → List Entry → Reading
reading_of d es = pick (eqb d.code 0) (entries es) (unreadable d.place d.code)

-- the pieces of a tape: its whole blocks, and what is left behind them
unfoldable pub pieces_of : List ℕ → List (List ℕ)
pieces_of t = cut (length t / block_size + 1) t
