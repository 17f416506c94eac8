-- What one entry leaves, by the reply to it. The block of an accepted entry is laid where the refusals leave room. Assumes nothing.
use Rattle.std.proofs.Common.{◌≡◌, sym, ap, ◌∙◌, List, ℕ, ◌*◌, Ok, Err, arith}
use Rattle.slices.specs.Writing.{laid}
use Rattle.slices.proofs.Writing.{laid_fits}
use Rattle.tape_read.specs.Entries.{block_size}
use Rattle.book_block.specs.Blocks.{block}
use Rattle.book_block.specs.declared.Entry.{Entry}
use Rattle.book_block.proofs.Filling.{block_length}
use Rattle.book.specs.Counting.{counted}
use Rattle.book.specs.Entering.{Reply, stored, reply_of, end_after, bytes_by, book_after, bytes_after}
use Rattle.book.specs.declared.Book.{Book}
use Rattle.book.specs.declared.Refusal.{Refusal}
use Rattle.book.proofs.Refusals.{accepted}

module _ (b : Book) (e : Entry) (t : List ℕ) where
  module _ (why : Refusal) (h : reply_of b.used e t ≡ Err why) where
    pub book_kept : book_after b e t ≡ b
    unfolding book_after end_after
    book_kept = ap (λ (r : Reply). end_after r e b) h

    pub bytes_kept : bytes_after b e t ≡ t
    unfolding bytes_after bytes_by
    bytes_kept = ap (λ (r : Reply). bytes_by r b.used e t) h

  module _ (h : reply_of b.used e t ≡ Ok tt) where
    pub book_counted : book_after b e t ≡ counted e.verdict b
    unfolding book_after end_after
    book_counted = ap (λ (r : Reply). end_after r e b) h

    pub block_laid : bytes_after b e t ≡ laid (block b.used e) (b.used * block_size) t
    unfolding bytes_after bytes_by reply_of
    block_laid =
        let a = accepted (stored b.used t) b.used _ e h in
        ap (λ (r : Reply). bytes_by r b.used e t) h
        ∙ sym (laid_fits (block b.used e) (b.used * block_size) t (omega (arith, a.fits, block_length b.used e)))
