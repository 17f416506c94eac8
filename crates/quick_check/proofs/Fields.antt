-- Fields of a block, as they are found: the payload's length in its two bytes, the check at the beginning of what stands behind all that
-- it covers, and the padding as a part of the block; and the block's tests by what is found. Assumes nothing.
use mathlib.Core.Path.{◌≡◌, refl, sym, ap, ap₂, ◌∙◌}
use mathlib.Core.Bool.{true, false, not}
use mathlib.Core.List.{List, ◌∷◌}
use Prim.Native.Nat.{ℕ, zero, suc, ◌+◌, ◌*◌, ◌-◌, ◌≤◌}
use native.Mathlib.Omega.{arith}
use lib.Dec.{eqb}
use lib.ListN.{length, get_or, take, drop}
use lib.Seq.{get_or-drop}
use borrow.Author.Tests.{eq-eqb, ne_eqb, le-ltb}
use Rattle.slices.specs.Choice.{pick, first_of}
use Rattle.slices.proofs.Cutting.{rest_part}
use Rattle.numbers.specs.Tables.{is_kind}
use Rattle.tape_crc.specs.Check.{covered, block_check_of}
use Rattle.tape_read.specs.Numbers.{number_of}
use Rattle.tape_read.specs.Entries.{payload_most}
use Rattle.tape_read.specs.Blocks.{window, field, number_in, session_in, kind_in, length_in, check_in, payload_at, padding_in}
use Rattle.tape_read.specs.Blocks.{all_zero, check_bad, number_bad, session_bad, kind_bad, spare_bad, length_bad, padding_bad}
use Rattle.tape_read.specs.Blocks.{content_tests, code_of}
use Rattle.tape_read.proofs.Windows.{window_zero, byte_field}
use Rattle.tape_read.proofs.Codes.{code_check_lem}

pub length_of_lem : (b : List ℕ) → length_in b ≡ get_or b 10 0 * 256 + get_or b 11 0
unfolding field window number_of
length_of_lem b = omega arith

-- the bytes at a place of what is left are those so much further on
further : (w n at : ℕ) (b : List ℕ) → window w at (drop n b) ≡ window w (n + at) b
unfolding window
further zero n at b = refl
further (suc w) n at b =
    ap₂ ◌∷◌ (get_or-drop n b at 0) (further w n (at + 1) b ∙ ap (λ (k : ℕ). window w k b) (next n at))
  where
    next : (n at : ℕ) → n + (at + 1) ≡ n + at + 1
    next n at = omega arith

pub check_of_lem : (b : List ℕ) → number_in (drop covered b) ≡ check_in b
unfolding field
check_of_lem b = ap number_of (further 4 covered 0 b)

pub padding_of : (b : List ℕ) (n : ℕ) → length_in b ≡ n → n ≤ payload_most
    → all_zero (take (covered - (payload_at + n)) (drop (payload_at + n) b)) ≡ all_zero (padding_in b)
unfolding padding_in
padding_of b n e fits =
    let same : covered - (payload_at + n) ≡ payload_most - n = omega arith in
    ap (λ (w : ℕ). all_zero (take w (drop (payload_at + n) b))) same
    ∙ (window_zero (payload_most - n) (payload_at + n) b
    ∙ ap (λ (k : ℕ). all_zero (window (payload_most - k) (payload_at + k) b)) (sym e))

-- ---- the tests

-- in their order, those of the heading by its fields
pub tests_left : (n s : ℕ) (b : List ℕ)
    → code_of n s b
    ≡ pick (check_bad b) 3
    (pick (not (eqb (number_in b) n)) 4
    (pick (not (eqb (session_in b) s)) 5
    (pick (not (is_kind (kind_in b))) 6
    (pick (not (eqb (get_or b 9 0) 0)) 7
    (pick (length_bad b) 8
    (pick (padding_bad b) 9 0))))))
unfolding code_of content_tests first_of number_bad session_bad kind_bad spare_bad
tests_left n s b = rw (byte_field 9 b) refl

module _ (b : List ℕ) where
  -- what is read behind all that the check covers
  pub check_there : number_in (take (length b - covered) (drop covered b)) ≡ check_in b
  check_there = ap number_in (rest_part b covered) ∙ check_of_lem b

  pub check_wrong : (n s : ℕ) → (check_in b ≡ block_check_of b → ⊥) → code_of n s b ≡ 3
  unfolding check_bad
  check_wrong n s other = code_check_lem n s b (ap not (ne_eqb _ _ other))

  pub check_right : check_in b ≡ block_check_of b → check_bad b ≡ false
  unfolding check_bad
  check_right same = ap not (eq-eqb _ _ same)

  pub length_right : length_in b ≤ payload_most → length_bad b ≡ false
  unfolding length_bad
  length_right fits = le-ltb payload_most (length_in b) fits

  pub padding_right : (n : ℕ) → length_in b ≡ n → n ≤ payload_most
      → all_zero (take (covered - (payload_at + n)) (drop (payload_at + n) b)) ≡ true
      → padding_bad b ≡ false
  unfolding padding_bad
  padding_right n e fits clear = ap not (sym (padding_of b n e fits) ∙ clear)

-- what the goals of `block::code` stand on
pub ruleset fields_told = (length_of_lem, check_there, check_wrong, check_right, length_right, padding_right)
