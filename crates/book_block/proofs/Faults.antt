-- The order of a block's faults: the first test that fails decides, and there is no fault exactly where every test is passed.
-- Assumes nothing.
use Rattle.std.proofs.Common.{◌≡◌, ◌==◌, not, refl, sym, Bool, true, false, Option, Some, None, List, ℕ}
use Rattle.std.proofs.lemmas.Option.{none-some}
use Rattle.slices.specs.Choice.{pick}
use Rattle.tape_crc.specs.Check.{block_check_of}
use Rattle.tape_read.specs.Blocks.{check_in, number_in, check_bad, number_bad}
use Rattle.book_block.specs.Entries.{is_verdict}
use Rattle.book_block.specs.Blocks.{verdict_in, verdict_bad, zeros_bad, fault_of}
use Rattle.book_block.specs.declared.Fault.TheVariants.{BadCheck, BadNumber, BadVerdict, BadZeros}

-- the tests themselves, in their order
pub tests_of : (n : ℕ) (b : List ℕ)
    → fault_of n b
    ≡ pick (not (check_in b == block_check_of b)) (Some BadCheck)
    (pick (not (number_in b == n)) (Some BadNumber)
    (pick (not (is_verdict (verdict_in b))) (Some BadVerdict)
    (pick (zeros_bad b) (Some BadZeros)
    None)))
unfolding fault_of check_bad number_bad verdict_bad
tests_of n b = refl

-- every test is passed
pub record Good (n : ℕ) (b : List ℕ) : Type 0 where
  pub check : check_bad b ≡ false
  pub number : number_bad n b ≡ false
  pub verdict : verdict_bad b ≡ false
  pub zeros : zeros_bad b ≡ false

pub good_block : (n : ℕ) (b : List ℕ) → Good n b → fault_of n b ≡ None
unfolding fault_of pick
good_block n b g = rw (g.check, g.number, g.verdict, g.zeros)

-- a test before others, where none finds a fault
passed : {A : Type 0} (t : Bool) (a : A) (r : Option A) → pick t (Some a) r ≡ None → (t ≡ false) × (r ≡ None)
unfolding pick
passed true a r e = absurd (none-some a (sym e))
passed false a r e = (refl, e)

pub block_good : (n : ℕ) (b : List ℕ) → fault_of n b ≡ None → Good n b
unfolding fault_of
block_good n b e =
    let check = passed _ _ _ e in
    let number = passed _ _ _ check.1 in
    let verdict = passed _ _ _ number.1 in
    let zeros = passed _ _ _ verdict.1 in
    record { check = check.0; number = number.0; verdict = verdict.0; zeros = zeros.0 }
