-- A block filled part by part: what is laid one after the other is one write of all the parts, and when the check has been
-- laid nothing of the buffer's old bytes is left. Assumes nothing.
use mathlib.Core.Path.{◌≡◌, sym, ap, ap₂, ◌∙◌}
use mathlib.Core.List.{List, ◌++◌, append_assoc, append-nil}
use Prim.Native.Nat.{ℕ, ◌+◌, ◌-◌, ◌≤◌}
use native.Mathlib.Omega.{arith}
use lib.ListN.{length, take, drop, length-append, drop_of_length-le, replicate-append-replicate}
use lib.Seq.{drop_at, take-append-le, take_all}
use Rattle.slices.specs.Writing.{put, laid, zeros}
use Rattle.slices.proofs.Writing.{put_length, put_start, put_step, laid_fits, zeros_length}
use Rattle.tape_crc.specs.Check.{check_of, block_check_of, covered}
use Rattle.tape_read.specs.Numbers.{bytes_of}
use Rattle.tape_read.specs.Entries.{Entry, block_size, payload_most}
use Rattle.tape_read.specs.Blocks.{head, body, block, payload_at}
use Rattle.tape_read.proofs.Numbers.{bytes_length}
use Rattle.tape_read.proofs.Parts.{head_length, body_length, block_length}

-- laid right after what was written from the start on
laid_next : (x y : List ℕ) (at : ℕ) (d : List ℕ) → length x ≡ at → at + length y ≤ length d → laid y at (put x 0 d) ≡ put (x ++ y) 0 d
laid_next x y at d here fits =
    let size = put_length x 0 d (omega arith) in
    let place : at ≡ 0 + length x = omega arith in
    laid_fits y at (put x 0 d) (omega arith) ∙ (ap (λ (k : ℕ). put y k (put x 0 d)) place ∙ sym (put_step x y 0 d (omega arith)))

module _ (n s : ℕ) (e : Entry) (d : List ℕ) (fits : length e.payload ≤ payload_most) (size : length d ≡ block_size) where
  -- head, payload and zeros, one after the other
  pub laid_body : laid (zeros (payload_most - length e.payload)) (payload_at + length e.payload)
      (laid e.payload payload_at (laid (head n s e) 0 d))
      ≡ put (body n s e) 0 d
  unfolding body
  laid_body =
      let k = length e.payload in
      let top = head_length n s e in
      let none = zeros_length (payload_most - k) in
      let both : length (head n s e ++ e.payload) ≡ payload_at + k = simp (length-append, head_length) in
      ap (λ (x : List ℕ). laid (zeros (payload_most - k)) (payload_at + k) (laid e.payload payload_at x))
      (laid_fits (head n s e) 0 d (omega arith))
      ∙ (ap (laid (zeros (payload_most - k)) (payload_at + k)) (laid_next (head n s e) e.payload payload_at d top (omega arith))
      ∙ (laid_next (head n s e ++ e.payload) (zeros (payload_most - k)) (payload_at + k) d both (omega arith)
      ∙ ap (λ (x : List ℕ). put x 0 d) (append_assoc (head n s e) e.payload (zeros (payload_most - k)))))

  -- the check of a block that lacks only its check
  body_check : block_check_of (put (body n s e) 0 d) ≡ block_check_of (body n s e)
  unfolding block_check_of
  body_check =
      ap (λ (b : List ℕ). check_of (take covered b)) (put_start (body n s e) d)
      ∙ ap check_of (take-append-le covered (body n s e) _ (omega (arith, body_length n s e fits)))

  -- with the check the block is whole
  check_laid : laid (bytes_of 4 (block_check_of (body n s e))) covered (put (body n s e) 0 d) ≡ block n s e
  unfolding block
  check_laid =
      let check = bytes_of 4 (block_check_of (body n s e)) in
      let four = bytes_length 4 (block_check_of (body n s e)) in
      laid_next (body n s e) check covered d (body_length n s e fits) (omega arith)
      ∙ (put_start (block n s e) d
      ∙ (ap (◌++◌ (block n s e)) (drop_of_length-le d {i = length (block n s e)} (omega (arith, block_length n s e fits)))
      ∙ append-nil (block n s e)))

  -- the three steps of a filling: the body, the check of what stands there, the check's bytes
  pub filled : (b c : List ℕ) (k : ℕ) → b ≡ put (body n s e) 0 d → k ≡ block_check_of b → c ≡ bytes_of 4 k → laid c covered b ≡ block n s e
  filled b c k laid_out checked bytes =
      let value : k ≡ block_check_of (body n s e) = checked ∙ (ap block_check_of laid_out ∙ body_check) in
      ap₂ (λ (x y : List ℕ). laid x covered y) (bytes ∙ ap (bytes_of 4) value) laid_out ∙ check_laid

-- a part of an array of zeros, up to its end
pub zeros_part : (k n : ℕ) → k ≤ n → take (n - k) (drop k (zeros n)) ≡ zeros (n - k)
unfolding zeros
zeros_part k n h =
    let all : k + (n - k) ≡ n = omega arith in
    let split : zeros n ≡ zeros k ++ zeros (n - k) = sym (replicate-append-replicate k (n - k) 0 ∙ ap zeros all) in
    ap (λ (l : List ℕ). take (n - k) (drop k l)) split
    ∙ (ap (take (n - k)) (drop_at (zeros k) (zeros (n - k)) k (zeros_length k))
    ∙ take_all (n - k) (zeros (n - k)) (omega (arith, zeros_length (n - k))))
