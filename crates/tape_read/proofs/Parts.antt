-- A block as it is laid out: how long its parts are, and what its fields read as. The fields of the head stand at fixed
-- places; the payload, the zeros and the check are the middle of three lists. Assumes nothing.
use mathlib.Core.Path.{◌≡◌, refl, sym, ap, ◌∙◌}
use mathlib.Core.Bool.{false}
use mathlib.Core.List.{List, [], ◌++◌, append_assoc, append-nil}
use Prim.Native.Nat.{ℕ, ◌+◌, ◌-◌, ◌*◌, ◌^◌, ◌≤◌, ◌<◌}
use native.Mathlib.Nat.{mul-one, add-zero}
use native.Mathlib.Omega.{arith}
use lib.ListN.{length, take, drop, length-append}
use lib.Seq.{take_at, drop_at, take-append-le}
use borrow.Author.Tests.{le-ltb}
use Rattle.slices.specs.Writing.{zeros}
use Rattle.slices.proofs.Choice.{pick_no}
use Rattle.slices.proofs.Writing.{zeros_length}
use Rattle.tape_crc.specs.Check.{check_of, block_check_of, covered}
use Rattle.tape_read.specs.Numbers.{number_of, bytes_of}
use Rattle.tape_read.specs.Entries.{Entry, block_size, payload_most}
use Rattle.tape_read.specs.Blocks.{head, body, block, window, field, number_in, session_in, kind_in, spare_in}
use Rattle.tape_read.specs.Blocks.{length_in, check_in, payload_at, padding_in, length_bad, payload_in}
use Rattle.tape_read.proofs.Numbers.{number_back, bytes_length}
use Rattle.tape_read.proofs.Windows.{window_middle}

pub head_length : (n s : ℕ) (e : Entry) → length (head n s e) ≡ payload_at
unfolding head bytes_of
head_length n s e = refl

-- the fields of the head
pub number_in_lem : (n s : ℕ) (e : Entry) → n < 2 ^ 32 → number_in (block n s e) ≡ n
unfolding field window block body head bytes_of
number_in_lem n s e h = number_back 4 n h

pub session_in_lem : (n s : ℕ) (e : Entry) → s < 2 ^ 32 → session_in (block n s e) ≡ s
unfolding field window block body head bytes_of
session_in_lem n s e h = number_back 4 s h

pub kind_in_lem : (n s : ℕ) (e : Entry) → kind_in (block n s e) ≡ e.kind
unfolding field window number_of block body head bytes_of
kind_in_lem n s e = add-zero (e.kind * 1) ∙ mul-one e.kind

pub spare_in_lem : (n s : ℕ) (e : Entry) → spare_in (block n s e) ≡ 0
unfolding field window number_of block body head bytes_of
spare_in_lem n s e = refl

module _ (n s : ℕ) (e : Entry) (fits : length e.payload ≤ payload_most) where
  pub body_length : length (body n s e) ≡ covered
  unfolding body
  body_length = simp (length-append, head_length, zeros_length) (omega arith)

  pub block_length : length (block n s e) ≡ block_size
  unfolding block
  block_length = simp (length-append, body_length, bytes_length)

  pub length_in_lem : length_in (block n s e) ≡ length e.payload
  unfolding field window block body head bytes_of
  length_in_lem = number_back 2 (length e.payload) (omega arith)

  -- a block in four parts
  check : List ℕ
  check = bytes_of 4 (block_check_of (body n s e))

  parts : block n s e ≡ head n s e ++ (e.payload ++ (zeros (payload_most - length e.payload) ++ check))
  unfolding block body check
  parts = simp append_assoc

  pub length_allowed : length_bad (block n s e) ≡ false
  unfolding length_bad
  length_allowed = le-ltb payload_most (length_in (block n s e)) (omega (arith, length_in_lem))

  pub payload_in_lem : payload_in (block n s e) ≡ e.payload
  unfolding payload_in
  payload_in_lem =
      pick_no _ _ _ length_allowed
      ∙ (ap (λ (k : ℕ). take k (drop payload_at (block n s e))) length_in_lem
      ∙ (ap (λ (b : List ℕ). take (length e.payload) (drop payload_at b)) parts
      ∙ (ap (take (length e.payload)) (drop_at (head n s e) _ payload_at (head_length n s e))
      ∙ take_at e.payload _ (length e.payload) refl)))

  pub padding_in_lem : padding_in (block n s e) ≡ zeros (payload_most - length e.payload)
  unfolding padding_in
  padding_in_lem =
      ap (λ (k : ℕ). window (payload_most - k) (payload_at + k) (block n s e)) length_in_lem
      ∙ (ap (window (payload_most - length e.payload) (payload_at + length e.payload)) (parts
      ∙ sym (append_assoc (head n s e) e.payload _))
      ∙ window_middle (head n s e ++ e.payload) (zeros (payload_most - length e.payload)) check _ _ (simp (length-append, head_length))
      (zeros_length _))

  -- the check covers the body alone
  pub check_of_lem : block_check_of (block n s e) ≡ block_check_of (body n s e)
  unfolding block_check_of block
  check_of_lem = ap check_of (take-append-le covered (body n s e) _ (omega (arith, body_length)))

  pub check_in_lem : block_check_of (body n s e) < 2 ^ 32 → check_in (block n s e) ≡ block_check_of (block n s e)
  unfolding field block
  check_in_lem h =
      ap (λ (b : List ℕ). number_of (window 4 covered b)) (ap (◌++◌ (body n s e)) (sym (append-nil _)))
      ∙ (ap number_of
      (window_middle (body n s e) (bytes_of 4 (block_check_of (body n s e))) [] covered 4 body_length
      (bytes_length 4 (block_check_of (body n s e))))
      ∙ (number_back 4 (block_check_of (body n s e)) h ∙ sym check_of_lem))
