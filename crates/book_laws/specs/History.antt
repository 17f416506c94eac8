-- A history: entries handed in one after the other, accepted and refused, on an empty book in lent bytes (02, R-11).
-- Assumes nothing.
use Rattle.std.specs.Prelude.{Ok, Err, List, [], ◌∷◌, ◌++◌, ℕ, ◌*◌, length, take}
use Rattle.tape_read.specs.Entries.{block_size}
use Rattle.book_block.specs.declared.Entry.{Entry}
use Rattle.book.specs.Counting.{empty}
use Rattle.book.specs.Entering.{Reply, reply_to, reply_of, book_after, bytes_after}
use Rattle.book.specs.declared.Book.{Book}
use Rattle.book.specs.declared.Refusal.TheVariants.{NoVerdict, AlreadyEntered, Full}

-- what a history leaves: the end of the book, the lent bytes, and the replies in order
pub record Left : Type 0 where
  pub book : Book
  pub bytes : List ℕ
  pub replies : List Reply

-- a reply in front of those that follow
abbrev pub before : Reply → Left → Left
before r l = record { book = l.book; bytes = l.bytes; replies = r ∷ l.replies }

-- entries handed in one after the other, as `enter` answers and leaves each
unfoldable pub handed_in : Book → List ℕ → List Entry → Left
handed_in b t [] = record { book = b; bytes = t; replies = [] }
handed_in b t (e ∷ es) = before (reply_of b.used e t) (handed_in (book_after b e t) (bytes_after b e t) es)

-- on an empty book
abbrev pub history : List ℕ → List Entry → Left
history t es = handed_in empty t es

-- the book itself: the blocks used, without the rest of the lent bytes
unfoldable pub book_of : Left → List ℕ
book_of l = take (l.book.used * block_size) l.bytes

-- the entries accepted so far, and one more where the reply says so
unfoldable pub joined_by : Reply → List Entry → Entry → List Entry
joined_by (Ok entered) done e = done ++ (e ∷ [])
joined_by (Err NoVerdict) done e = done
joined_by (Err AlreadyEntered) done e = done
joined_by (Err Full) done e = done

-- which entries of a history are accepted, in order, and the replies to all of them: said of the entries handed in and the room alone
unfoldable pub accepted_from : ℕ → List Entry → List Entry → List Entry
accepted_from room done [] = done
accepted_from room done (e ∷ es) = accepted_from room (joined_by (reply_to done (length done) room e) done e) es

abbrev pub accepted : ℕ → List Entry → List Entry
accepted room es = accepted_from room [] es

unfoldable pub replies_from : ℕ → List Entry → List Entry → List Reply
replies_from room done [] = []
replies_from room done (e ∷ es) =
    reply_to done (length done) room e ∷ replies_from room (joined_by (reply_to done (length done) room e) done e) es
