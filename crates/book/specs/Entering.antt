-- One entry handed in: the three refusals in their order, and what an accepted entry changes (02, R-11).
-- Assumes nothing.
use Rattle.std.specs.Prelude.{Bool, true, false, not, Result, Ok, Err, List, [], ◌∷◌, length, take, drop}
use Rattle.std.specs.Prelude.{ℕ, zero, suc, min, ◌+◌, ◌*◌, ◌/◌, eqb, leb, ltb}
use Rattle.slices.specs.Choice.{pick}
use Rattle.slices.specs.Writing.{put}
use Rattle.tape_read.specs.Entries.{block_size}
use Rattle.book_block.specs.Entries.{is_verdict}
use Rattle.book_block.specs.Blocks.{block, entry_in}
use Rattle.book_block.specs.declared.Entry.{Entry}
use Rattle.book.specs.Counting.{entries_most, counted}
use Rattle.book.specs.declared.Book.{Book}
use Rattle.book.specs.declared.Refusal.{Refusal}
use Rattle.book.specs.declared.Refusal.TheVariants.{NoVerdict, AlreadyEntered, Full}

-- the entries in the first n blocks of some bytes
unfoldable pub entries_in : ℕ → List ℕ → List Entry
entries_in zero t = []
entries_in (suc n) t = entry_in (take block_size t) ∷ entries_in n (drop block_size t)

-- the entries in the blocks used, as many of these as are there
unfoldable pub stored : ℕ → List ℕ → List Entry
stored used t = entries_in (min used (length t / block_size)) t

-- whether a tape number is among those of some entries
unfoldable pub entered : ℕ → List Entry → Bool
entered tape [] = false
entered tape (e ∷ es) = pick (eqb e.tape tape) true (entered tape es)

-- what becomes of an entry that is handed in: it is entered, or refused by one of three names
abbrev pub Reply : Type 0
Reply = Result (Unit {0}) Refusal

-- the reply to an entry, where these entries stand in so many blocks, and there is room for so many bytes: refused by the first name
-- that applies
unfoldable pub reply_to : List Entry → ℕ → ℕ → Entry → Reply
reply_to done used room e =
    pick (not (is_verdict e.verdict)) (Err NoVerdict)
    (pick (entered e.tape done) (Err AlreadyEntered)
    (pick (leb entries_most used) (Err Full)
    (pick (ltb room (used * block_size + block_size)) (Err Full)
    (Ok tt))))

-- the reply after so many blocks of some bytes
unfoldable pub reply_of : ℕ → Entry → List ℕ → Reply
reply_of used e t = reply_to (stored used t) used (length t) e

-- the end of a book after a reply: one entry more, or as it was
unfoldable pub end_after : Reply → Entry → Book → Book
end_after (Ok done) e b = counted e.verdict b
end_after (Err why) e b = b

-- the bytes after a reply: the entry's block in its place, or as they were
unfoldable pub bytes_by : Reply → ℕ → Entry → List ℕ → List ℕ
bytes_by (Ok done) used e t = put (block used e) (used * block_size) t
bytes_by (Err why) used e t = t

-- what `enter` leaves
unfoldable pub book_after : Book → Entry → List ℕ → Book
book_after b e t = end_after (reply_of b.used e t) e b

unfoldable pub bytes_after : Book → Entry → List ℕ → List ℕ
bytes_after b e t = bytes_by (reply_of b.used e t) b.used e t
