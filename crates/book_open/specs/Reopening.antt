-- Reopening any bytes as a campaign book: its entries, or the block at which it is refused and why (02, R-11: bytes that such entries
-- cannot have left are refused). Assumes nothing.
use Rattle.std.specs.Prelude.{Option, Some, None, Result, Ok, Err, not, List, [], ◌∷◌, ◌++◌, ℕ, ◌+◌, ◌*◌, ◌/◌, ◌%◌, eqb, ltb, length}
use Rattle.std.specs.Bool.{then_some}
use Rattle.std.specs.Option.{option_or}
use Rattle.slices.specs.Choice.{pick}
use Rattle.tape_read.specs.Entries.{block_size}
use Rattle.tape_read.specs.Tapes.{blocks_of}
use Rattle.book_block.specs.Blocks.{block, tape_in, entry_in, fault_of}
use Rattle.book_block.specs.declared.Entry.{Entry}
use Rattle.book_block.specs.declared.Fault.{Fault}
use Rattle.book_block.specs.declared.Fault.TheVariants.{TooLong, Torn, Twice}
use Rattle.book.specs.Counting.{entries_most, end_of}
use Rattle.book.specs.Entering.{entered}
use Rattle.book.specs.declared.Book.{Book}
use Rattle.book_open.specs.declared.Refused.{Refused}

-- what bytes reopen as: the entries of a book, or the block at which they are refused, and the fault
pub data Reading : Type 0 where
  good : List Entry → Reading
  bad : ℕ → Fault → Reading

-- the fault of the next block, after the entries before it: one of the block itself, or a tape number twice
unfoldable pub fault_after : List Entry → List ℕ → Option Fault
fault_after done b = option_or (fault_of (length done) b) (then_some (entered (tape_in b) done) Twice)

-- where a block has a fault the reading ends, else it goes on
unfoldable pub unless_bad : Option Fault → ℕ → Reading → Reading
unless_bad None place onward = onward
unless_bad (Some fault) place onward = bad place fault

-- blocks one by one, after the entries of those before: the first bad one decides
unfoldable pub read_on : List Entry → List (List ℕ) → Reading
read_on done [] = good done
read_on done (b ∷ bs) = unless_bad (fault_after done b) (length done) (read_on (done ++ (entry_in b ∷ [])) bs)

-- any bytes: more blocks than a book can have, no multiple of a block (refused after the whole blocks), then block by block
unfoldable pub read_book : List ℕ → Reading
read_book t =
    pick (ltb (entries_most * block_size) (length t)) (bad 0 TooLong)
    (pick (not (eqb (length t % block_size) 0)) (bad (length t / block_size) Torn)
    (read_on [] (blocks_of t)))

-- what `reopen` answers: the end of the book, or the refusal
unfoldable pub opening_of : Reading → Result Book Refused
opening_of (good es) = Ok (end_of es)
opening_of (bad place fault) = Err (record { place = place; fault = fault })

-- entries written one after the other, the first in block n
unfoldable pub written : ℕ → List Entry → List ℕ
written n [] = []
written n (e ∷ es) = block n e ++ written (n + 1) es
