-- The campaign book over whole histories (02, R-11): what is counted, what a cut leaves, and which bytes reopen. A history stands as
-- the entries that it accepts say; these, written in order, are what its blocks hold; what is written reads back, and only that.
-- Assumes nothing.
use mathlib.Core.Path.{◌≡◌, sym, ap, ◌∙◌, subst}
use mathlib.Core.Bool.{true}
use mathlib.Core.List.{List, []}
use Prim.Native.Nat.{ℕ, ◌*◌, ◌/◌, ◌%◌, ◌≤◌}
use native.Mathlib.Decide.{dec_le, ℕ_discrete}
use native.Mathlib.Omega.{arith}
use Rattle.std.proofs.Common.{Ok}
use lib.ListN.{length, take, length-take}
use lib.Pow.{are_bytes}
use Rattle.tape_read.specs.Entries.{block_size}
use Rattle.tape_read.specs.Tapes.{cut, blocks_of}
use Rattle.book_block.specs.Entries.{all_fit}
use Rattle.book_block.specs.declared.Entry.{Entry}
use Rattle.book.specs.Counting.{entries_most, end_of, total_of}
use Rattle.book_open.specs.Reopening.{good, read_on, read_book, opening_of, written}
use Rattle.book_open.proofs.Blockwise.{too_long, torn, blockwise}
use Rattle.book_laws.specs.History.{history, book_of, accepted, replies_from}
use Rattle.book_laws.proofs.Written.{Holds, holds_take, written_length, written_cut, reads_written, Wrote, read_is, good_bad}
use Rattle.book_laws.proofs.Standing.{stands_empty, used_is}
use Rattle.book_laws.proofs.Tracking.{Led, tracked, all_accepted, holds_fit}
use Rattle.book_laws.proofs.Counts.{total_length}

-- entries that can stand in a book, written, reopen as themselves
reopens : (es : List Entry) → Holds [] es → length es ≤ entries_most → read_book (written 0 es) ≡ good es
unfolding blocks_of
reopens es h most =
    let size = written_length 0 es in
    let blocks : length (written 0 es) / block_size ≡ length es = omega arith in
    blockwise (written 0 es) (omega arith) (omega arith)
    ∙ (ap (λ (n : ℕ). read_on [] (cut n (written 0 es))) blocks ∙ reads_written [] es h (omega arith))

module _ (t : List ℕ) (es : List Entry) (f : all_fit es ≡ true) where
  led : Led (length t) [] es (history t es)
  led = tracked [] es _ t (stands_empty t) f

  abbrev taken : List Entry
  taken = accepted (length t) es

  -- each count is the number of entries accepted with that verdict, and a block is used for each
  pub counts_each : (history t es).book ≡ end_of taken
  counts_each = led.stands.end

  -- the four counts together are the number of entries accepted
  pub counts_together : total_of (history t es).book ≡ length taken
  counts_together = ap total_of counts_each ∙ total_length [] taken led.stands.holds

  -- each reply is the one that the entries accepted before it and the room call for
  pub replies_each : (history t es).replies ≡ replies_from (length t) [] es
  replies_each = led.replies

  -- the blocks used are the entries accepted, written in order
  pub book_is : book_of (history t es) ≡ written 0 taken
  unfolding book_of
  book_is = ap (λ (n : ℕ). take (n * block_size) (history t es).bytes) (used_is taken _ _ led.stands) ∙ led.stands.bytes

  -- cut after any block, the book reopens with exactly the entries stored before; whole, with all of them
  pub cut_reopens : (k : ℕ) → read_book (take (k * block_size) (book_of (history t es))) ≡ good (take k taken)
  cut_reopens k =
      let most = led.stands.most in
      ap (λ (b : List ℕ). read_book (take (k * block_size) b)) book_is
      ∙ (ap read_book (written_cut k 0 taken)
      ∙ reopens (take k taken) (holds_take k [] taken led.stands.holds) (omega (arith, length-take k taken)))

  pub whole_reopens : read_book (book_of (history t es)) ≡ good taken
  whole_reopens = ap read_book book_is ∙ reopens taken led.stands.holds led.stands.most

  -- and so with the end that the book had
  pub end_reopens : opening_of (read_book (book_of (history t es))) ≡ Ok (history t es).book
  unfolding opening_of
  end_reopens = ap opening_of whole_reopens ∙ ap Ok (sym counts_each)

  -- with the counts of the entries before the cut
  pub cut_counts : (k : ℕ) → opening_of (read_book (take (k * block_size) (book_of (history t es)))) ≡ Ok (end_of (take k taken))
  unfolding opening_of
  cut_counts k = ap opening_of (cut_reopens k)

-- bytes that reopen are in whole blocks, and few enough
whole : (t : List ℕ) (es : List Entry) → read_book t ≡ good es → (length t ≤ entries_most * block_size) × (length t % block_size ≡ 0)
whole t es r = size (dec_le (length t) (entries_most * block_size))
  where
    ends : length t ≤ entries_most * block_size → Dec (length t % block_size ≡ 0)
        → (length t ≤ entries_most * block_size) × (length t % block_size ≡ 0)
    ends fits (yes even) = (fits, even)
    ends fits (no odd) = absurd (good_bad (read_book t) es _ _ r (torn t fits odd))

    size : Dec (length t ≤ entries_most * block_size) → (length t ≤ entries_most * block_size) × (length t % block_size ≡ 0)
    size (yes fits) = ends fits (ℕ_discrete (length t % block_size) 0)
    size (no long) = absurd (good_bad (read_book t) es _ _ r (too_long t (omega (arith, long))))

module _ (t : List ℕ) (es : List Entry) (bytes : are_bytes t ≡ true) (r : read_book t ≡ good es) where
  wrote : Wrote [] t es
  unfolding blocks_of
  wrote =
      let w = whole t es r in
      read_is (length t / block_size) [] t es bytes (omega (arith, w.0, w.1)) (sym (blockwise t w.0 w.1) ∙ r)

  -- bytes that reopen are their entries, written
  pub reopened_is : t ≡ written 0 es
  reopened_is = wrote.bytes ∙ ap (written 0) (sym wrote.entries)

  reopened_holds : Holds [] es
  reopened_holds = subst (Holds []) (sym wrote.entries) wrote.holds

  -- and some history leaves them: their entries handed in one by one, all accepted, into any lent bytes of that length
  pub reopened_fit : all_fit es ≡ true
  reopened_fit = holds_fit [] es reopened_holds

  module _ (u : List ℕ) (size : length u ≡ length t) where
    pub reopened_accepted : accepted (length u) es ≡ es
    reopened_accepted =
        let w = whole t es r in
        let blocks = ap length reopened_is ∙ written_length 0 es in
        all_accepted (length u) [] es reopened_holds (omega (arith, w.0)) (omega arith)

    pub reopened_left : book_of (history u es) ≡ t
    reopened_left = book_is u es reopened_fit ∙ (ap (written 0) reopened_accepted ∙ sym reopened_is)

-- two books that reopen with the same entries are the same bytes
pub same_entries : (t u : List ℕ) (es : List Entry) → are_bytes t ≡ true → are_bytes u ≡ true → read_book t ≡ good es
    → read_book u ≡ good es → t ≡ u
same_entries t u es bt bu rt ru = reopened_is t es bt rt ∙ sym (reopened_is u es bu ru)
