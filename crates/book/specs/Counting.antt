-- The end of a book: the blocks used and the four counts (02, R-11).
-- Assumes nothing.
use Rattle.std.specs.Prelude.{List, [], ◌∷◌, ℕ, ◌+◌, eqb, ltb, length}
use Rattle.slices.specs.Choice.{pick}
use Rattle.book_block.specs.Entries.{pass, fail, inconclusive, unreadable}
use Rattle.book_block.specs.declared.Entry.{Entry}
use Rattle.book.specs.declared.Book.{Book}

-- at most so many entries to a book (02, R-11: a full book)
abbrev pub entries_most : ℕ
entries_most = 4096

-- how many of some entries have a verdict
unfoldable pub count_of : ℕ → List Entry → ℕ
count_of v [] = 0
count_of v (e ∷ es) = pick (eqb e.verdict v) (count_of v es + 1) (count_of v es)

-- the end of a book that holds these entries
unfoldable pub end_of : List Entry → Book
end_of es =
    record {
      used = length es;
      pass = count_of pass es;
      fail = count_of fail es;
      inconclusive = count_of inconclusive es;
      unreadable = count_of unreadable es;
    }

-- the end of an empty book
abbrev pub empty : Book
empty = record { used = 0; pass = 0; fail = 0; inconclusive = 0; unreadable = 0 }

-- the four counts together
abbrev pub total_of : Book → ℕ
total_of b = b.pass + b.fail + b.inconclusive + b.unreadable

-- one more, up to what a book can hold: an end that no entries lead to gets an answer too
unfoldable pub one_more : ℕ → ℕ
one_more n = pick (ltb n entries_most) (n + 1) n

-- the count of one verdict, where this one is entered
unfoldable pub raised : ℕ → ℕ → ℕ → ℕ
raised entered mine count = pick (eqb entered mine) (one_more count) count

-- one entry more, with this verdict
unfoldable pub counted : ℕ → Book → Book
counted v b =
    record {
      used = one_more b.used;
      pass = raised v pass b.pass;
      fail = raised v fail b.fail;
      inconclusive = raised v inconclusive b.inconclusive;
      unreadable = raised v unreadable b.unreadable;
    }
