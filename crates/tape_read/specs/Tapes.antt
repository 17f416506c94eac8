-- A tape as blocks one after the other, and what any bytes read as (01, "The tape": UNREADABLE codes).
-- Assumes nothing.
use Rattle.std.specs.Prelude.{not, List, [], ◌∷◌, ◌++◌, ℕ, zero, suc, ◌+◌, ◌*◌, ◌/◌, ◌%◌, eqb, ltb, length, take, drop}
use Rattle.slices.specs.Choice.{pick}
use Rattle.numbers.specs.Tables.{code_long, code_torn}
use Rattle.tape_read.specs.Entries.{Entry, block_size, tape_most}
use Rattle.tape_read.specs.Blocks.{block, session_in, code_of, entry_in}

-- what a tape reads as: its entries, or the place and code that make it unreadable
pub data Reading : Type 0 where
  entries : List Entry → Reading
  unreadable : ℕ → ℕ → Reading

-- one entry more in front of a reading
unfoldable pub preceded : Entry → Reading → Reading
preceded e (entries es) = entries (e ∷ es)
preceded e (unreadable place code) = unreadable place code

-- the block at an index; what is there of it, where the tape ends before
unfoldable pub block_at : ℕ → List ℕ → List ℕ
block_at k t = take block_size (drop (k * block_size) t)

-- the first n blocks of a tape
unfoldable pub cut : ℕ → List ℕ → List (List ℕ)
cut zero t = []
cut (suc n) t = take block_size t ∷ cut n (drop block_size t)

-- the whole blocks of a tape, in order
unfoldable pub blocks_of : List ℕ → List (List ℕ)
blocks_of t = cut (length t / block_size) t

-- blocks read one by one, the first with the number n: the first bad one decides
unfoldable pub read_blocks : ℕ → ℕ → List (List ℕ) → Reading
read_blocks n session [] = entries []
read_blocks n session (b ∷ bs) =
    pick (eqb (code_of n session b) 0) (preceded (entry_in b) (read_blocks (n + 1) session bs)) (unreadable n (code_of n session b))

-- what is left of a tape, read from block n on
unfoldable pub read_from : ℕ → ℕ → List ℕ → Reading
read_from n session rest = read_blocks n session (blocks_of rest)

-- the session number of a tape is that of block 0
unfoldable pub session_of : List ℕ → ℕ
session_of t = session_in (block_at 0 t)

-- any bytes: too many (code 1), no multiple of a block (code 2, after the whole blocks), then block by block
unfoldable pub read_tape : List ℕ → Reading
read_tape t =
    pick (ltb tape_most (length t)) (unreadable 0 code_long)
    (pick (not (eqb (length t % block_size) 0)) (unreadable (length t / block_size) code_torn)
    (read_from 0 (session_of t) t))

-- entries written one after the other, the first with the number n
unfoldable pub written : ℕ → ℕ → List Entry → List ℕ
written n session [] = []
written n session (e ∷ es) = block n session e ++ written (n + 1) session es
