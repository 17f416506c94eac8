-- `book::Book::enter` meets its contract: what is left is what the reply says. Assumes nothing.
use Rattle.std.proofs.Common.{sym, ap, ◌∙◌, List, ℕ, ◌*◌}
use Rattle.slices.specs.Writing.{laid}
use Rattle.tape_read.specs.Entries.{block_size}
use Rattle.book.proofs.Stepping.{book_kept, bytes_kept, book_counted, block_laid}
use Rattle.book.proofs.Book.enter.Goals as goal

pub returns-in_err-reply_to-clause-book_after : goal.returns-in_err-reply_to-clause-book_after
returns-in_err-reply_to-clause-book_after c = sym (book_kept _ _ _ _ (sym c.reply_to.ensures ∙ c.in_err-reply_to.was))

pub returns-in_err-reply_to-clause-bytes_after : goal.returns-in_err-reply_to-clause-bytes_after
returns-in_err-reply_to-clause-bytes_after c = sym (bytes_kept _ _ _ _ (sym c.reply_to.ensures ∙ c.in_err-reply_to.was))

pub returns-clause-book_after : goal.returns-clause-book_after
returns-clause-book_after c = c.count.ensures ∙ sym (book_counted _ _ _ (sym c.reply_to.ensures ∙ c.in_ok-reply_to.was))

pub returns-clause-bytes_after : goal.returns-clause-bytes_after
returns-clause-bytes_after c =
    c.lay.ensures
    ∙ (ap (λ (b : List ℕ). laid b (c.args.self.now.used * block_size) c.args.bytes.now) c.block_of.ensures
    ∙ sym (block_laid _ _ _ (sym c.reply_to.ensures ∙ c.in_ok-reply_to.was)))
