-- The order of the refusals: an entry is accepted exactly where none of them applies. Assumes nothing.
use Rattle.std.proofs.Common.{◌≡◌, refl, ap, ◌∙◌, Bool, true, false, not, Result, Ok, Err, List, ℕ, ◌+◌, ◌*◌, ◌≤◌, ◌<◌}
use borrow.Author.Tests.{le-ltb, lt-leb, ltb-false, leb-false, not-false}
use Rattle.slices.specs.Choice.{pick}
use Rattle.slices.proofs.Choice.{pick_no}
use Rattle.tape_read.specs.Entries.{block_size}
use Rattle.book_block.specs.Entries.{is_verdict}
use Rattle.book_block.specs.declared.Entry.{Entry}
use Rattle.book.specs.Counting.{entries_most}
use Rattle.book.specs.Entering.{entered, reply_to}
use Rattle.book.specs.declared.Refusal.{Refusal}

-- what an accepted entry fulfils
pub record Accepted (done : List Entry) (used room : ℕ) (e : Entry) : Type 0 where
  pub verdict : is_verdict e.verdict ≡ true
  pub first : entered e.tape done ≡ false
  pub entries : used < entries_most
  pub fits : used * block_size + block_size ≤ room

-- a refusal before others, where none applies
passed : (t : Bool) (why : Refusal) (r : Result (Unit {0}) Refusal) → pick t (Err why) r ≡ Ok tt → (t ≡ false) × (r ≡ Ok tt)
unfolding pick
passed true why r e = absurd cc
passed false why r e = (refl, e)

module _ (done : List Entry) (used room : ℕ) (e : Entry) where
  pub accepts : Accepted done used room e → reply_to done used room e ≡ Ok tt
  unfolding reply_to
  accepts a =
      pick_no _ _ _ (ap not a.verdict)
      ∙ (pick_no _ _ _ a.first ∙ (pick_no _ _ _ (lt-leb _ _ a.entries) ∙ pick_no _ _ _ (le-ltb _ _ a.fits)))

  pub accepted : reply_to done used room e ≡ Ok tt → Accepted done used room e
  unfolding reply_to
  accepted h =
      let verdict = passed _ _ _ h in
      let first = passed _ _ _ verdict.1 in
      let entries = passed _ _ _ first.1 in
      let fits = passed _ _ _ entries.1 in
      record {
        verdict = not-false _ verdict.0;
        first = first.0;
        entries = leb-false _ _ entries.0;
        fits = ltb-false _ _ fits.0;
      }
