-- A book read one block at a time, as the loop over its blocks does it, and the two faults that go before all blocks.
-- Assumes nothing.
use mathlib.Core.Path.{◌≡◌, sym, ap, ◌∙◌}
use mathlib.Core.Bool.{not}
use mathlib.Core.List.{List, [], ◌∷◌}
use Prim.Native.Nat.{ℕ, suc, ◌+◌, ◌-◌, ◌*◌, ◌/◌, ◌%◌, ◌≤◌, ◌<◌}
use native.Mathlib.Numerals.{add-one}
use native.Mathlib.Omega.{arith}
use Rattle.std.proofs.Common.{Some, None}
use lib.ListN.{length, drop}
use borrow.Author.Tests.{lt-ltb, le-ltb, eq-eqb, ne_eqb}
use Rattle.slices.proofs.Choice.{pick_yes, pick_no}
use Rattle.tape_read.specs.Entries.{block_size}
use Rattle.tape_read.specs.Tapes.{block_at, cut, blocks_of}
use Rattle.tape_read.proofs.Steps.{rest_next}
use Rattle.book_block.specs.Blocks.{entry_in}
use Rattle.book_block.specs.declared.Entry.{Entry}
use Rattle.book_block.specs.declared.Fault.{Fault}
use Rattle.book_block.specs.declared.Fault.TheVariants.{TooLong, Torn}
use Rattle.book.specs.Counting.{entries_most, end_of, counted}
use Rattle.book.specs.Entering.{entries_in}
use Rattle.book.proofs.Counting.{counted_more}
use Rattle.book.proofs.Searching.{entries_length, entries_more}
use Rattle.book_open.specs.Reopening.{Reading, good, bad, fault_after, unless_bad, read_on, read_book}

-- what is read from block k on
unfoldable pub onward : ℕ → List ℕ → Reading
onward k t = read_on (entries_in k t) (cut (length t / block_size - k) (drop (k * block_size) t))

module _ (t : List ℕ) where
  pub from_start : onward 0 t ≡ read_on [] (blocks_of t)
  unfolding onward entries_in blocks_of
  from_start =
      let all : length t / block_size - 0 ≡ length t / block_size = omega arith in
      ap (λ (n : ℕ). read_on [] (cut n t)) all

  pub at_end_lem : (k : ℕ) → length t / block_size ≤ k → onward k t ≡ good (entries_in k t)
  unfolding onward cut read_on
  at_end_lem k h =
      let none : length t / block_size - k ≡ 0 = omega arith in
      ap (λ (n : ℕ). read_on (entries_in k t) (cut n (drop (k * block_size) t))) none

  module _ (k : ℕ) (h : k < length t / block_size) where
    next_block : cut (length t / block_size - k) (drop (k * block_size) t)
        ≡ block_at k t ∷ cut (length t / block_size - (k + 1)) (drop ((k + 1) * block_size) t)
    unfolding cut block_at
    next_block =
        let one : length t / block_size - k ≡ suc (length t / block_size - (k + 1)) = omega arith in
        ap (λ (n : ℕ). cut n (drop (k * block_size) t)) one
        ∙ ap (λ (l : List ℕ). block_at k t ∷ cut (length t / block_size - (k + 1)) l) (rest_next k t)

    -- the next block is bad: it is the one named
    pub at_fault : (fault : Fault) → fault_after (entries_in k t) (block_at k t) ≡ Some fault → onward k t ≡ bad k fault
    unfolding onward read_on unless_bad
    at_fault fault h = ap (read_on (entries_in k t)) next_block ∙ rw h (ap (λ (n : ℕ). bad n fault) (entries_length k t))

    -- the next block is good
    pub one_on : fault_after (entries_in k t) (block_at k t) ≡ None → onward k t ≡ onward (k + 1) t
    unfolding onward read_on unless_bad
    one_on fine =
        ap (read_on (entries_in k t)) next_block
        ∙ rw fine (ap (λ (es : List Entry). read_on es (cut (length t / block_size - (k + 1)) (drop ((k + 1) * block_size) t)))
        (sym (entries_more k t) ∙ ap (λ (n : ℕ). entries_in n t) (sym (add-one k))))

  -- and it is counted
  pub one_counted : (k : ℕ) → k < entries_most
      → counted (entry_in (block_at k t)).verdict (end_of (entries_in k t)) ≡ end_of (entries_in (k + 1) t)
  one_counted k h =
      counted_more (entries_in k t) (entry_in (block_at k t)) (omega (arith, entries_length k t))
      ∙ ap end_of (sym (entries_more k t) ∙ ap (λ (n : ℕ). entries_in n t) (sym (add-one k)))

  pub too_long : entries_most * block_size < length t → read_book t ≡ bad 0 TooLong
  unfolding read_book
  too_long h = pick_yes _ _ _ (lt-ltb _ _ h)

  module _ (fits : length t ≤ entries_most * block_size) where
    pub torn : (length t % block_size ≡ 0 → ⊥) → read_book t ≡ bad (length t / block_size) Torn
    unfolding read_book
    torn h = pick_no _ _ _ (le-ltb _ _ fits) ∙ pick_yes _ _ _ (ap not (ne_eqb _ _ h))

    pub blockwise : length t % block_size ≡ 0 → read_book t ≡ read_on [] (blocks_of t)
    unfolding read_book
    blockwise h = pick_no _ _ _ (le-ltb _ _ fits) ∙ pick_no _ _ _ (ap not (eq-eqb _ _ h))
