-- Which blocks are good: of bytes, exactly those that a writer writes, whatever number and session number it gives them.
-- Assumes nothing.
use mathlib.Core.Path.{◌≡◌, refl}
use mathlib.Core.Bool.{true}
use mathlib.Core.List.{List}
use Prim.Native.Nat.{ℕ, ◌^◌, ◌<◌}
use lib.ListN.{length}
use lib.Pow.{are_bytes}
use Rattle.slices.specs.Choice.{pick}
use Rattle.slices.specs.Writing.{zeros}
use Rattle.tape_crc.specs.Check.{divisor, shifted, divided, byte_in, running_of, check_of, block_check_of}
use Rattle.tape_read.specs.Numbers.{number_of}
use Rattle.tape_read.specs.Entries.{Entry, block_size, storable}
use Rattle.tape_read.specs.Blocks.{block, window, field, check_bad, number_in, session_in, entry_in}
use Rattle.tape_read.proofs.Back.{block_code}
use Rattle.tape_read.proofs.Unique.{block_is}
use Rattle.recover.specs.Salvage.{is_good}
use Rattle.recover.proofs.Own.{good_passes, passes_good}

pub written_good : (n s : ℕ) (e : Entry) → storable e ≡ true → n < 2 ^ 32 → s < 2 ^ 32 → is_good (block n s e) ≡ true
written_good n s e h hn hs = passes_good (block n s e) n s (block_code n s e h hn hs)

pub good_written : (b : List ℕ) → are_bytes b ≡ true → length b ≡ block_size → is_good b ≡ true
    → b ≡ block (number_in b) (session_in b) (entry_in b)
good_written b bytes size good = block_is (number_in b) (session_in b) b bytes size (good_passes b good)

-- a blank block fails its check
pub blank_fails : check_bad (zeros block_size) ≡ true
unfolding check_bad block_check_of check_of running_of byte_in divided shifted divisor pick field window number_of zeros
blank_fails = refl
