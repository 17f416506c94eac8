-- A block filled part by part: the head laid over zeros is the body and four zeros more, and the check of that, laid over these four,
-- makes the block whole. And a number at a place is the number that the part from there on begins with. Assumes nothing.
use mathlib.Core.Path.{◌≡◌, refl, sym, ap, ap₂, ◌∙◌}
use mathlib.Core.List.{List, ◌∷◌, ◌++◌, append_assoc, append-nil}
use Prim.Native.Nat.{ℕ, ◌+◌, ◌<◌}
use native.Mathlib.Omega.{arith}
use lib.ListN.{length, get_or, take, drop, length-append, replicate-append-replicate}
use lib.Seq.{take_at, drop_at, drop-length, take-append-le, get_or-take, get_or-drop}
use Rattle.slices.specs.Writing.{put, laid, zeros}
use Rattle.slices.proofs.Writing.{put_start, laid_fits, zeros_length}
use Rattle.tape_crc.specs.Check.{check_of, block_check_of, covered}
use Rattle.tape_read.specs.Numbers.{number_of, bytes_of}
use Rattle.tape_read.specs.Entries.{block_size}
use Rattle.tape_read.specs.Blocks.{window, field}
use Rattle.tape_read.proofs.Numbers.{bytes_length}
use Rattle.book_block.specs.Blocks.{head, body, block, padding, padding_at}
use Rattle.book_block.specs.declared.Entry.{Entry}

-- a number at a place
pub field_part : (at : ℕ) (b : List ℕ) → field 0 4 (take 4 (drop at b)) ≡ field at 4 b
unfolding field window
field_part at b =
    ap number_of
    (ap₂ ◌∷◌ (there at 0 (omega arith) (omega arith))
    (ap₂ ◌∷◌ (there (at + 1) 1 (omega arith) (omega arith))
    (ap₂ ◌∷◌ (there (at + 1 + 1) 2 (omega arith) (omega arith)) (ap₂ ◌∷◌ (there (at + 1 + 1 + 1) 3 (omega arith) (omega arith)) refl))))
  where
    there : (k i : ℕ) → i < 4 → at + i ≡ k → get_or (take 4 (drop at b)) i 0 ≡ get_or b k 0
    there k i h e = get_or-take 4 (drop at b) i 0 h ∙ (get_or-drop at b i 0 ∙ ap (λ (j : ℕ). get_or b j 0) e)

pub zeros_two : (m n : ℕ) → zeros (m + n) ≡ zeros m ++ zeros n
unfolding zeros
zeros_two m n = sym (replicate-append-replicate m n 0)

module _ (n : ℕ) (e : Entry) where
  pub head_length : length (head n e) ≡ padding_at
  unfolding head bytes_of
  head_length = refl

  pub body_length : length (body n e) ≡ covered
  unfolding body
  body_length = simp (length-append, head_length, zeros_length)

  pub block_length : length (block n e) ≡ block_size
  unfolding block
  block_length = simp (length-append, body_length, bytes_length)

  -- the head laid over a block of zeros
  laid_head : laid (head n e) 0 (zeros block_size) ≡ body n e ++ zeros 4
  unfolding body
  laid_head =
      laid_fits (head n e) 0 (zeros block_size) (omega (arith, head_length, zeros_length block_size))
      ∙ (put_start (head n e) (zeros block_size)
      ∙ (ap (◌++◌ (head n e))
      (ap₂ drop head_length (zeros_two padding_at (padding + 4)) ∙ (drop_at (zeros padding_at) _ padding_at (zeros_length padding_at)
      ∙ zeros_two padding 4))
      ∙ sym (append_assoc (head n e) (zeros padding) (zeros 4))))

  -- the check of what then stands there
  open_check : block_check_of (body n e ++ zeros 4) ≡ block_check_of (body n e)
  unfolding block_check_of
  open_check = ap check_of (take-append-le covered (body n e) (zeros 4) (omega (arith, body_length)))

  laid_check : (c : List ℕ) → length c ≡ 4 → laid c covered (body n e ++ zeros 4) ≡ body n e ++ c
  unfolding put
  laid_check c four =
      laid_fits c covered (body n e ++ zeros 4) (omega (arith, length-append (body n e) (zeros 4), zeros_length 4, body_length))
      ∙ ap₂ ◌++◌ (take_at (body n e) (zeros 4) covered body_length)
      (ap (◌++◌ c) (ap₂ drop (four ∙ sym (zeros_length 4)) (drop_at (body n e) (zeros 4) covered body_length)
      ∙ drop-length (zeros 4)) ∙ append-nil c)

  -- the three steps: the head over zeros, the check of that, its bytes
  pub filled : (h b c : List ℕ) (k : ℕ) → h ≡ head n e → b ≡ laid h 0 (zeros block_size) → k ≡ block_check_of b → c ≡ bytes_of 4 k
      → laid c covered b ≡ block n e
  unfolding block
  filled h b c k told laid_out checked bytes =
      let stands : b ≡ body n e ++ zeros 4 = laid_out ∙ (ap (λ (x : List ℕ). laid x 0 (zeros block_size)) told ∙ laid_head) in
      let value : k ≡ block_check_of (body n e) = checked ∙ (ap block_check_of stands ∙ open_check) in
      let check : c ≡ bytes_of 4 (block_check_of (body n e)) = bytes ∙ ap (bytes_of 4) value in
      ap₂ (λ (x y : List ℕ). laid x covered y) check stands
      ∙ laid_check (bytes_of 4 (block_check_of (body n e))) (bytes_length 4 (block_check_of (body n e)))
