-- `book_open::reopen` meets its contract. The loop's invariant: the book counts the entries of the blocks passed, and what is read
-- from here on is what the whole reads as. Assumes nothing.
use mathlib.Core.Path.{◌≡◌}
use Rattle.book.specs.Counting.{end_of}
use Rattle.book.specs.Entering.{entries_in}
use Rattle.book_open.specs.Reopening.{read_book}
use Rattle.book_open.proofs.Blockwise.{onward}
use Rattle.book_open.proofs.reopen.Given as goal

abbrev pub invariant-loop-k : goal.invariant-loop-k
invariant-loop-k l = record {
  rest : onward l.k l.bytes ≡ read_book l.bytes;
  counted : l.book ≡ end_of (entries_in l.k l.bytes);
}
