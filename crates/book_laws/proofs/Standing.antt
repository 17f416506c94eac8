-- How a history stands: the end of the book counts the entries accepted so far, and the blocks used are these entries written. One
-- more entry, accepted or refused, leaves it so. Assumes nothing.
use mathlib.Core.Path.{◌≡◌, refl, sym, ap, ap₂, ◌∙◌}
use mathlib.Core.Bool.{true}
use mathlib.Core.List.{List, [], ◌∷◌, ◌++◌}
use Prim.Native.Nat.{ℕ, ◌+◌, ◌*◌, ◌≤◌}
use native.Mathlib.Nat.{zero-add}
use native.Mathlib.Omega.{arith}
use Rattle.std.proofs.Common.{Ok, Err}
use lib.ListN.{length, take, drop, length-append, take-append-drop}
use lib.Seq.{take-add}
use Rattle.slices.specs.Writing.{put}
use Rattle.slices.proofs.Writing.{put_length, put_take, put_there}
use Rattle.tape_read.specs.Entries.{block_size}
use Rattle.book_block.specs.Entries.{fits}
use Rattle.book_block.specs.Blocks.{block}
use Rattle.book_block.specs.declared.Entry.{Entry}
use Rattle.book_block.proofs.Filling.{block_length}
use Rattle.book.specs.Counting.{entries_most, count_of, end_of, empty, counted}
use Rattle.book.specs.Entering.{Reply, entries_in, stored, reply_to, reply_of, end_after, bytes_by}
use Rattle.book.specs.declared.Book.{Book}
use Rattle.book.specs.declared.Refusal.TheVariants.{NoVerdict, AlreadyEntered, Full}
use Rattle.book.proofs.Counting.{counted_more}
use Rattle.book.proofs.Refusals.{accepted}
use Rattle.book.proofs.Searching.{stored_there}
use Rattle.book_open.specs.Reopening.{written}
use Rattle.book_laws.specs.History.{joined_by}
use Rattle.book_laws.proofs.Written.{Holds, holds_more, written_more, entries_written}

pub record Stands (es : List Entry) (b : Book) (t : List ℕ) : Type 0 where
  pub end : b ≡ end_of es
  pub bytes : take (length es * block_size) t ≡ written 0 es
  pub most : length es ≤ entries_most
  pub room : length es * block_size ≤ length t
  pub holds : Holds [] es

pub stands_empty : (t : List ℕ) → Stands [] empty t
unfolding end_of count_of written Holds
stands_empty t = record { end = refl; bytes = refl; most = omega arith; room = omega arith; holds = tt }

module _ (es : List Entry) (b : Book) (t : List ℕ) (s : Stands es b t) where
  pub used_is : b.used ≡ length es
  unfolding end_of
  used_is = ap (λ (x : Book). x.used) s.end

  stored_is : stored b.used t ≡ es
  stored_is =
      let n = length es in
      ap (λ (k : ℕ). stored k t) used_is
      ∙ (stored_there n t s.room
      ∙ (ap (entries_in n)
      (sym (take-append-drop (n * block_size) t) ∙ ap (λ (x : List ℕ). x ++ drop (n * block_size) t) s.bytes)
      ∙ entries_written 0 [] es (drop (n * block_size) t) s.holds))

  -- the reply is the one that the history calls for
  pub reply_is : (e : Entry) → reply_of b.used e t ≡ reply_to es (length es) (length t) e
  unfolding reply_of
  reply_is e = ap₂ (λ (d : List Entry) (k : ℕ). reply_to d k (length t) e) stored_is used_is

  -- one block more after those used
  grown : (e : Entry) → length es * block_size + block_size ≤ length t
      → take ((length es + 1) * block_size) (put (block b.used e) (b.used * block_size) t) ≡ written 0 (es ++ (e ∷ []))
  grown e room =
      let n = length es in
      let at = n * block_size in
      let x = block n e in
      let size = block_length n e in
      let inside : at ≤ length t = omega arith in
      let more : (n + 1) * block_size ≡ at + length x = omega arith in
      ap₂ (λ (m k : ℕ). take m (put (block k e) (k * block_size) t)) more used_is
      ∙ (take-add at (length x) (put x at t)
      ∙ (ap₂ ◌++◌ (put_take x at t inside ∙ s.bytes) (put_there x at t inside)
      ∙ (ap (λ (k : ℕ). written 0 es ++ block k e) (sym (zero-add n)) ∙ sym (written_more 0 es e))))

  kept_length : (e : Entry) → length es * block_size + block_size ≤ length t
      → length (put (block b.used e) (b.used * block_size) t) ≡ length t
  kept_length e room =
      let size = block_length b.used e in
      let used = used_is in
      put_length (block b.used e) (b.used * block_size) t (omega arith)

  -- after one entry more, by the reply to it
  pub stands_by : (e : Entry) → fits e ≡ true → (r : Reply) → reply_to es (length es) (length t) e ≡ r
      → Stands (joined_by r es e) (end_after r e b) (bytes_by r b.used e t)
  unfolding joined_by end_after bytes_by
  stands_by e f (Ok entered) h =
      let a = accepted es (length es) (length t) e h in
      let one = length-append es (e ∷ []) in
      let size = kept_length e a.fits in
      record {
        end = ap (counted e.verdict) s.end ∙ counted_more es e a.entries;
        bytes = ap (λ (n : ℕ). take (n * block_size) (put (block b.used e) (b.used * block_size) t)) one ∙ grown e a.fits;
        most = omega arith;
        room = omega arith;
        holds = holds_more [] es e s.holds (record { verdict = a.verdict; numbers = f; first = a.first });
      }
  stands_by e f (Err NoVerdict) h = s
  stands_by e f (Err AlreadyEntered) h = s
  stands_by e f (Err Full) h = s

  -- the lent bytes keep their length
  pub length_by : (e : Entry) (r : Reply) → reply_to es (length es) (length t) e ≡ r → length (bytes_by r b.used e t) ≡ length t
  unfolding bytes_by
  length_by e (Ok entered) h = kept_length e (accepted es (length es) (length t) e h).fits
  length_by e (Err why) h = refl
