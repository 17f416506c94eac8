-- Worked values that hold the definitions to the layout and to 02's limits. Each by computation.
-- Assumes nothing.
use mathlib.Core.Path.{◌≡◌, refl}
use mathlib.Core.Bool.{true, false}
use mathlib.Core.List.{[], ◌∷◌}
use Prim.Native.Nat.{◌*◌}
use Rattle.std.proofs.Common.{Ok, Err}
use Rattle.slices.specs.Choice.{pick}
use Rattle.tape_read.specs.Entries.{block_size}
use Rattle.tape_read.specs.Numbers.{bytes_of}
use Rattle.book_block.specs.Entries.{is_verdict, made}
use Rattle.book_block.specs.Blocks.{head}
use Rattle.book.specs.Entering.{entered, reply_to}
use Rattle.book.specs.declared.Refusal.TheVariants.{NoVerdict, AlreadyEntered, Full}

-- where each number of an entry stands: block number, tape number, verdict, place, code
pub places : head 0x0102_0304 (made 0x0506_0708 4 0x090A_0B0C 0x0D0E_0F10)
    ≡ 1 ∷ 2 ∷ 3 ∷ 4 ∷ 5 ∷ 6 ∷ 7 ∷ 8 ∷ 4 ∷ 0 ∷ 0 ∷ 0 ∷ 9 ∷ 10 ∷ 11 ∷ 12 ∷ 13 ∷ 14 ∷ 15 ∷ 16 ∷ []
unfolding head bytes_of
places = refl

-- the four verdicts, and the numbers beside them
pub verdicts : (is_verdict 0 ≡ false) × (is_verdict 1 ≡ true) × (is_verdict 4 ≡ true) × (is_verdict 5 ≡ false)
unfolding is_verdict
verdicts = (refl, refl, refl, refl)

-- the 4,096th entry and the next, with room for more; the last block of a room, and one byte too few for it
pub limits : (reply_to [] 4095 (4097 * block_size) (made 7 1 0 0) ≡ Ok tt)
    × (reply_to [] 4096 (4097 * block_size) (made 7 1 0 0) ≡ Err Full)
    × (reply_to [] 1 1024 (made 7 1 0 0) ≡ Ok tt) × (reply_to [] 1 1023 (made 7 1 0 0) ≡ Err Full)
unfolding reply_to entered is_verdict pick
limits = (refl, refl, refl, refl)

-- the order: no verdict before already entered, and that before full
pub order : (reply_to (made 7 1 0 0 ∷ []) 4096 0 (made 7 5 0 0) ≡ Err NoVerdict)
    × (reply_to (made 7 1 0 0 ∷ []) 4096 0 (made 7 2 0 0) ≡ Err AlreadyEntered)
unfolding reply_to entered is_verdict pick
order = (refl, refl)
