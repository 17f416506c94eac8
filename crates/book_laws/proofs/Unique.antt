-- No entry is written in two ways: a block of bytes without a fault is the block of its own entry, since each field has its width and
-- a number has one form in it. Assumes nothing.
use mathlib.Core.Path.{◌≡◌, sym, ap, ap₂, ◌∙◌}
use mathlib.Core.Bool.{true}
use mathlib.Core.List.{List, ◌∷◌, ◌++◌, append_assoc}
use Prim.Native.Nat.{ℕ, ◌^◌}
use native.Mathlib.Omega.{arith}
use Rattle.std.proofs.Common.{None}
use lib.ListN.{length, take, drop, length-drop, take-append-drop}
use lib.Pow.{are_bytes}
use lib.Seq.{take_all, drop-drop, take-append-le}
use borrow.Author.Tests.{eqb-true, lt-ltb, not-false}
use Rattle.slices.specs.Tests.{alike}
use Rattle.slices.specs.Writing.{zeros}
use Rattle.slices.proofs.Choice.{and_left, and_right, and_both}
use Rattle.slices.proofs.Comparing.{alike_same}
use Rattle.tape_crc.specs.Check.{check_of, block_check_of, covered}
use Rattle.tape_read.specs.Numbers.{bytes_of}
use Rattle.tape_read.specs.Entries.{block_size}
use Rattle.tape_read.specs.Blocks.{window, field, number_in, check_in, check_bad, number_bad}
use Rattle.tape_read.proofs.Numbers.{number_below}
use Rattle.tape_read.proofs.Unique.{window_bytes, field_bytes}
use Rattle.tape_read.proofs.Windows.{window_part, byte_field}
use Rattle.book_block.specs.Entries.{is_verdict, is_long, fits}
use Rattle.book_block.specs.Blocks.{head, body, block, padding, padding_at, entry_in, verdict_bad, zeros_bad, fault_of}
use Rattle.book_block.proofs.Faults.{block_good}
use Rattle.book_block.proofs.Filling.{body_length}

-- a number of four bytes
field_long : (at : ℕ) (b : List ℕ) → are_bytes b ≡ true → is_long (field at 4 b) ≡ true
unfolding field is_long window
field_long at b e = lt-ltb (field at 4 b) (2 ^ 32) (number_below (window 4 at b) (window_bytes 4 at b e))

module _ (n : ℕ) (b : List ℕ) (bytes : are_bytes b ≡ true) (fine : fault_of n b ≡ None) where
  -- the entry in a block without a fault
  pub entry_fits : fits (entry_in b) ≡ true
  unfolding fits entry_in
  entry_fits = and_both _ _ (field_long 4 b bytes) (and_both _ _ (field_long 12 b bytes) (field_long 16 b bytes))

  pub entry_verdict : is_verdict (entry_in b).verdict ≡ true
  unfolding entry_in verdict_bad
  entry_verdict = not-false _ (block_good n b fine).verdict

  module _ (size : length b ≡ block_size) where
    number_is : number_in b ≡ n
    unfolding number_bad
    number_is = eqb-true _ _ (not-false _ (block_good n b fine).number)

    check_is : check_in b ≡ block_check_of b
    unfolding check_bad
    check_is = eqb-true _ _ (not-false _ (block_good n b fine).check)

    spare_is : take 3 (drop 9 b) ≡ zeros 3
    unfolding zeros_bad
    spare_is = alike_same _ _ (and_left _ _ (not-false _ (block_good n b fine).zeros))

    padding_is : take padding (drop padding_at b) ≡ zeros padding
    unfolding zeros_bad
    padding_is = alike_same _ _ (and_right (alike (take 3 (drop 9 b)) (zeros 3)) _ (not-false _ (block_good n b fine).zeros))

    -- the first twenty bytes
    head_is : take padding_at b ≡ head n (entry_in b)
    unfolding head entry_in window zeros
    head_is =
        sym (window_part padding_at 0 b (omega arith))
        ∙ ap₂ ◌++◌ (sym (field_bytes 0 4 b bytes) ∙ ap (bytes_of 4) number_is)
        (ap₂ ◌++◌ (sym (field_bytes 4 4 b bytes))
        (ap₂ ◌∷◌ (sym (byte_field 8 b))
        (ap₂ ◌++◌ (window_part 3 9 b (omega arith)
        ∙ spare_is) (ap₂ ◌++◌ (sym (field_bytes 12 4 b bytes)) (sym (field_bytes 16 4 b bytes))))))

    body_is : b ≡ body n (entry_in b) ++ drop covered b
    unfolding body
    body_is =
        sym (take-append-drop padding_at b)
        ∙ (ap₂ ◌++◌ head_is (sym (take-append-drop padding (drop padding_at b)) ∙ ap₂ ◌++◌ padding_is (drop-drop padding padding_at b))
        ∙ sym (append_assoc (head n (entry_in b)) (zeros padding) (drop covered b)))

    check_covers : block_check_of b ≡ block_check_of (body n (entry_in b))
    unfolding block_check_of
    check_covers =
        ap (λ (d : List ℕ). check_of (take covered d)) body_is
        ∙ ap check_of (take-append-le covered (body n (entry_in b)) (drop covered b) (omega (arith, body_length n (entry_in b))))

    last_is : drop covered b ≡ bytes_of 4 (block_check_of (body n (entry_in b)))
    last_is =
        sym (take_all 4 (drop covered b) (omega (arith, length-drop covered b)))
        ∙ (sym (window_part 4 covered b (omega arith))
        ∙ (sym (field_bytes covered 4 b bytes) ∙ ap (bytes_of 4) (check_is ∙ check_covers)))

    pub block_is : b ≡ block n (entry_in b)
    unfolding block
    block_is = body_is ∙ ap (◌++◌ (body n (entry_in b))) last_is
