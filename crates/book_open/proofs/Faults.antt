-- A block without a fault has none of its own, and its tape number stands in no block before. Assumes nothing.
use Rattle.std.proofs.Common.{◌≡◌, refl, Bool, true, false, Option, Some, None, List, ℕ, ◌*◌, ◌≤◌, length}
use Rattle.std.specs.Bool.{then_some}
use Rattle.std.specs.Option.{option_or}
use Rattle.tape_read.specs.Entries.{block_size}
use Rattle.book_block.specs.Blocks.{tape_in, fault_of}
use Rattle.book_block.specs.declared.Entry.{Entry}
use Rattle.book_block.specs.declared.Fault.TheVariants.{Twice}
use Rattle.book.specs.Entering.{entries_in, stored, entered}
use Rattle.book.proofs.Searching.{entries_length, stored_there}
use Rattle.book_open.specs.Reopening.{fault_after}

neither : {A : Type 0} (o : Option A) (t : Bool) (a : A) → option_or o (then_some t a) ≡ None → (o ≡ None) × (t ≡ false)
neither None true a e = absurd cc
neither None false a e = (refl, refl)
neither (Some x) t a e = absurd cc

module _ (done : List Entry) (b : List ℕ) where
  pub no_fault : fault_of (length done) b ≡ None → entered (tape_in b) done ≡ false → fault_after done b ≡ None
  unfolding fault_after
  no_fault own first = rw (own, first)

  pub faultless : fault_after done b ≡ None → (fault_of (length done) b ≡ None) × (entered (tape_in b) done ≡ false)
  unfolding fault_after
  faultless h = neither _ _ _ h

-- after blocks that are all there
pub fault_there : (k : ℕ) (t b : List ℕ) → k * block_size ≤ length t
    → fault_after (entries_in k t) b ≡ option_or (fault_of k b) (then_some (entered (tape_in b) (stored k t)) Twice)
unfolding fault_after
fault_there k t b h = rw (stored_there k t h, entries_length k t)
