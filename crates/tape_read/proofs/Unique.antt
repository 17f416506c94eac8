-- No entries are written in two ways: a good block of bytes is the block of its own entry, since each field has its width
-- and a number has one form in it; and so, block by block, for a tape. Assumes nothing.
use mathlib.Core.Path.{◌≡◌, refl, sym, ap, ap₂, ◌∙◌}
use mathlib.Core.Bool.{true, and-eq-true_iff}
use mathlib.Core.List.{List, [], ◌∷◌, ◌++◌, append_assoc}
use Prim.Native.Nat.{ℕ, zero, suc, ◌+◌, ◌-◌, ◌≤◌}
use native.Mathlib.Omega.{arith}
use lib.Dec.{eqb}
use lib.ListN.{length, get_or, take, drop, length-drop, take-append-drop}
use lib.Pow.{are_bytes}
use lib.Seq.{take_all, drop-drop, length-take-le, take-append-le}
use borrow.Author.Tests.{eqb-true, ltb-false, not-false}
use Rattle.slices.specs.Writing.{zeros}
use Rattle.slices.proofs.Choice.{pick_no}
use Rattle.tape_crc.specs.Check.{check_of, block_check_of, covered}
use Rattle.tape_crc.proofs.Bytes.{bytes_cons, bytes_at}
use Rattle.tape_read.specs.Numbers.{bytes_of}
use Rattle.tape_read.specs.Entries.{block_size, payload_most}
use Rattle.tape_read.specs.Blocks.{head, body, block, window, field, number_in, session_in, spare_in}
use Rattle.tape_read.specs.Blocks.{length_in, check_in, payload_at, padding_in, all_zero, check_bad, number_bad}
use Rattle.tape_read.specs.Blocks.{session_bad, spare_bad, length_bad, padding_bad, payload_in, entry_in}
use Rattle.tape_read.proofs.Numbers.{bytes_back}
use Rattle.tape_read.proofs.Windows.{window_length, window_part, byte_field}
use Rattle.tape_read.proofs.Codes.{Good}
use Rattle.tape_read.proofs.Parts.{body_length}

pub window_bytes : (w at : ℕ) (b : List ℕ) → are_bytes b ≡ true → are_bytes (window w at b) ≡ true
unfolding window
window_bytes zero at b e = refl
window_bytes (suc w) at b e = bytes_cons (get_or b at 0) (window w (at + 1) b) (bytes_at b e at) (window_bytes w (at + 1) b e)

-- a field's bytes are what its number writes
pub field_bytes : (at w : ℕ) (b : List ℕ) → are_bytes b ≡ true → bytes_of w (field at w b) ≡ window w at b
unfolding field
field_bytes at w b e = bytes_back w (window w at b) (window_bytes w at b e) (window_length w at b)

all_zeros : (s : List ℕ) → all_zero s ≡ true → s ≡ zeros (length s)
unfolding all_zero zeros
all_zeros [] e = refl
all_zeros (x ∷ s) e =
    let both = (and-eq-true_iff (eqb x 0) (all_zero s)).0 e in
    ap₂ ◌∷◌ (eqb-true x 0 both.0) (all_zeros s both.1)

module _ (n s : ℕ) (b : List ℕ) (bytes : are_bytes b ≡ true) (size : length b ≡ block_size) (g : Good n s b) where
  number_is : number_in b ≡ n
  unfolding number_bad
  number_is = eqb-true _ _ (not-false _ g.number)

  session_is : session_in b ≡ s
  unfolding session_bad
  session_is = eqb-true _ _ (not-false _ g.session)

  spare_is : spare_in b ≡ 0
  unfolding spare_bad
  spare_is = eqb-true _ _ (not-false _ g.spare)

  check_is : check_in b ≡ block_check_of b
  unfolding check_bad
  check_is = eqb-true _ _ (not-false _ g.check)

  length_is : length_in b ≤ payload_most
  unfolding length_bad
  length_is = ltb-false _ _ g.length

  payload_is : payload_in b ≡ take (length_in b) (drop payload_at b)
  unfolding payload_in
  payload_is = pick_no _ _ _ g.length

  payload_length : length (payload_in b) ≡ length_in b
  payload_length = ap length payload_is ∙ length-take-le (length_in b) (drop payload_at b)
      (omega (arith, length_is, length-drop payload_at b))

  padding_is : take (payload_most - length_in b) (drop (payload_at + length_in b) b) ≡ zeros (payload_most - length_in b)
  unfolding padding_bad padding_in
  padding_is =
      let k = length_in b in
      sym (window_part (payload_most - k) (payload_at + k) b (omega (arith, length_is)))
      ∙ (all_zeros (padding_in b) (not-false _ g.padding) ∙ ap zeros (window_length (payload_most - k) (payload_at + k) b))

  -- the first twelve bytes
  head_is : take payload_at b ≡ head n s (entry_in b)
  unfolding head entry_in window
  head_is =
      sym (window_part payload_at 0 b (omega arith))
      ∙ ap₂ ◌++◌ (sym (field_bytes 0 4 b bytes) ∙ ap (bytes_of 4) number_is)
      (ap₂ ◌++◌ (sym (field_bytes 4 4 b bytes) ∙ ap (bytes_of 4) session_is)
      (ap₂ ◌∷◌ (sym (byte_field 8 b))
      (ap₂ ◌∷◌ (sym (byte_field 9 b) ∙ spare_is) (sym (field_bytes 10 2 b bytes) ∙ ap (bytes_of 2) (sym payload_length)))))

  -- what follows the payload: zeros, then the check
  after : drop (length_in b) (drop payload_at b) ≡ zeros (payload_most - length (payload_in b)) ++ drop covered b
  after =
      let k = length_in b in
      let end : payload_at + k + (payload_most - k) ≡ covered = omega (arith, length_is) in
      drop-drop k payload_at b
      ∙ (sym (take-append-drop (payload_most - k) (drop (payload_at + k) b))
      ∙ ap₂ ◌++◌ (padding_is ∙ ap (λ (j : ℕ). zeros (payload_most - j)) (sym payload_length))
      (drop-drop (payload_most - k) (payload_at + k) b ∙ ap (λ (j : ℕ). drop j b) end))

  body_is : b ≡ body n s (entry_in b) ++ drop covered b
  unfolding body entry_in
  body_is =
      sym (take-append-drop payload_at b)
      ∙ (ap₂ ◌++◌ head_is (sym (take-append-drop (length_in b) (drop payload_at b)) ∙ ap₂ ◌++◌ (sym payload_is) after)
      ∙ sym (regrouped (head n s (entry_in b)) (payload_in b) (zeros (payload_most - length (payload_in b))) (drop covered b)))
    where
      regrouped : (h p z c : List ℕ) → (h ++ (p ++ z)) ++ c ≡ h ++ (p ++ (z ++ c))
      regrouped h p z c = simp append_assoc

  check_covers : block_check_of b ≡ block_check_of (body n s (entry_in b))
  unfolding block_check_of entry_in
  check_covers =
      ap (λ (d : List ℕ). check_of (take covered d)) body_is
      ∙ ap check_of (take-append-le covered (body n s (entry_in b)) (drop covered b) (omega (arith, body_length n s (entry_in b) fits)))
    where
      fits : length (payload_in b) ≤ payload_most
      fits = omega (arith, payload_length, length_is)

  last_is : drop covered b ≡ bytes_of 4 (block_check_of (body n s (entry_in b)))
  last_is =
      sym (take_all 4 (drop covered b) (omega (arith, length-drop covered b)))
      ∙ (sym (window_part 4 covered b (omega arith))
      ∙ (sym (field_bytes covered 4 b bytes) ∙ ap (bytes_of 4) (check_is ∙ check_covers)))

  pub block_is : b ≡ block n s (entry_in b)
  unfolding block
  block_is = body_is ∙ ap (◌++◌ (body n s (entry_in b))) last_is
