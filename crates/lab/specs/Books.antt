-- The campaign book, as numbers (02, R-11): its end on reopening, or the fault and the block; and the reply to an entry.
-- Assumes nothing.
use Rattle.std.specs.Prelude.{Result, Ok, Err, List, [], ◌∷◌, ℕ}
use Rattle.book.specs.declared.Book.{Book}
use Rattle.book_block.specs.Blocks.{fault_number}
use Rattle.book.specs.Entering.{Reply}
use Rattle.book.specs.declared.Refusal.TheVariants.{NoVerdict, AlreadyEntered, Full}
use Rattle.book_open.specs.declared.Refused.{Refused}

-- 0, or why the bytes are no book
unfoldable pub fault_in : Result Book Refused → ℕ
fault_in (Ok book) = 0
fault_in (Err refused) = fault_number refused.fault

-- the blocks used and the four counts, or the block at which the bytes are refused
unfoldable pub laid_end : Result Book Refused → List ℕ
laid_end (Ok b) = b.used ∷ b.pass ∷ b.fail ∷ b.inconclusive ∷ b.unreadable ∷ []
laid_end (Err refused) = refused.place ∷ 0 ∷ 0 ∷ 0 ∷ 0 ∷ []

-- entered, or the three refusals in their order
unfoldable pub reply_number : Reply → ℕ
reply_number (Ok entered) = 0
reply_number (Err NoVerdict) = 1
reply_number (Err AlreadyEntered) = 2
reply_number (Err Full) = 3

-- a book's end of which only the blocks used count
abbrev pub book_at : ℕ → Book
book_at used = record { used = used; pass = 0; fail = 0; inconclusive = 0; unreadable = 0 }
