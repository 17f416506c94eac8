-- What was written in order reads back as exactly those entries, and so does every beginning of it that ends with a block.
-- Assumes nothing.
use mathlib.Core.Path.{◌≡◌, refl, sym, ap, ap₂, ◌∙◌}
use mathlib.Core.Bool.{true, and-eq-true_iff}
use mathlib.Core.List.{List, [], ◌∷◌, ◌++◌}
use Prim.Native.Nat.{ℕ, zero, suc, ◌+◌, ◌*◌, ◌^◌, ◌≤◌, ◌<◌}
use native.Mathlib.Omega.{arith}
use lib.ListN.{length, take, length-append, length-take}
use lib.Seq.{take_at, drop_at, take-nil, take-append-add}
use Rattle.tape_read.specs.Entries.{Entry, block_size, blocks_most, storable, all_storable}
use Rattle.tape_read.specs.Blocks.{block, session_in, code_of, entry_in}
use Rattle.tape_read.specs.Tapes.{entries, preceded, block_at, read_from, session_of, read_tape, written}
use Rattle.tape_read.proofs.Parts.{block_length, session_in_lem}
use Rattle.tape_read.proofs.Back.{storable_fits, block_code, entry_back}
use Rattle.tape_read.proofs.Steps.{read_end, read_good, tape_blocks}

module _ (e : Entry) (es : List Entry) (h : all_storable (e ∷ es) ≡ true) where
  pub first_storable : storable e ≡ true
  unfolding all_storable
  first_storable = ((and-eq-true_iff (storable e) (all_storable es)).0 h).0

  pub rest_storable : all_storable es ≡ true
  unfolding all_storable
  rest_storable = ((and-eq-true_iff (storable e) (all_storable es)).0 h).1

  first_length : (n s : ℕ) → length (block n s e) ≡ block_size
  first_length n s = block_length n s e (storable_fits e first_storable)

-- so many blocks as entries
pub written_length : (n s : ℕ) (es : List Entry) → all_storable es ≡ true → length (written n s es) ≡ length es * block_size
unfolding written
written_length n s [] h = refl
written_length n s (e ∷ es) h =
    length-append (block n s e) _ ∙ omega (arith, first_length e es h n s, written_length (n + 1) s es (rest_storable e es h))

-- block by block, from any block number on
pub written_reads : (n s : ℕ) (es : List Entry) → all_storable es ≡ true → n + length es ≤ 2 ^ 32 → s < 2 ^ 32
    → read_from n s (written n s es) ≡ entries es
unfolding written preceded
written_reads n s [] h hn hs = read_end n s [] (omega arith)
written_reads n s (e ∷ es) h hn hs =
    let size = first_length e es h n s in
    let rest = written (n + 1) s es in
    let front = take_at (block n s e) rest block_size size in
    let good : code_of n s (take block_size (block n s e ++ rest)) ≡ 0 =
    ap (code_of n s) front ∙ block_code n s e (first_storable e es h) (omega arith) hs in
    read_good n s (block n s e ++ rest) (simp length-append (omega arith)) good
    ∙ ap₂ preceded
    (ap entry_in front ∙ entry_back n s e (first_storable e es h))
    (ap (read_from (n + 1) s) (drop_at (block n s e) rest block_size size)
    ∙ written_reads (n + 1) s es (rest_storable e es h) (omega arith) hs)

-- the session number is that of the first block, whatever it is where there is none
session_written : (s : ℕ) (es : List Entry) → all_storable es ≡ true → s < 2 ^ 32
    → read_from 0 (session_of (written 0 s es)) (written 0 s es) ≡ read_from 0 s (written 0 s es)
unfolding written session_of block_at
session_written s [] h hs = read_end 0 (session_of []) [] (omega arith) ∙ sym (read_end 0 s [] (omega arith))
session_written s (e ∷ es) h hs =
    ap (λ (k : ℕ). read_from 0 k (written 0 s (e ∷ es)))
    (ap session_in (take_at (block 0 s e) (written 1 s es) block_size (first_length e es h 0 s)) ∙ session_in_lem 0 s e hs)

-- what was written in order reads back as exactly those entries
pub tape_back : (s : ℕ) (es : List Entry) → all_storable es ≡ true → length es ≤ blocks_most → s < 2 ^ 32
    → read_tape (written 0 s es) ≡ entries es
tape_back s es h hn hs =
    let size = written_length 0 s es h in
    tape_blocks (written 0 s es) (omega arith) (omega arith)
    ∙ (session_written s es h hs ∙ written_reads 0 s es h (omega arith) hs)

take_storable : (k : ℕ) (es : List Entry) → all_storable es ≡ true → all_storable (take k es) ≡ true
unfolding all_storable
take_storable zero es h = refl
take_storable (suc k) [] h = refl
take_storable (suc k) (e ∷ es) h =
    (and-eq-true_iff (storable e) (all_storable (take k es))).1 (first_storable e es h, take_storable k es (rest_storable e es h))

-- the writing cut after k blocks
cut_written : (k n s : ℕ) (es : List Entry) → all_storable es ≡ true → take (k * block_size) (written n s es) ≡ written n s (take k es)
unfolding written
cut_written zero n s es h = refl
cut_written (suc k) n s [] h = take-nil (suc k * block_size)
cut_written (suc k) n s (e ∷ es) h =
    let one : suc k * block_size ≡ length (block n s e) + k * block_size = omega (arith, first_length e es h n s) in
    ap (λ (m : ℕ). take m (block n s e ++ written (n + 1) s es)) one
    ∙ (take-append-add (block n s e) (written (n + 1) s es) (k * block_size)
    ∙ ap (◌++◌ (block n s e)) (cut_written k (n + 1) s es (rest_storable e es h)))

-- and where the writing was cut after any block, as exactly the entries so far
pub cut_back : (k s : ℕ) (es : List Entry) → all_storable es ≡ true → length es ≤ blocks_most → s < 2 ^ 32
    → read_tape (take (k * block_size) (written 0 s es)) ≡ entries (take k es)
cut_back k s es h hn hs =
    ap read_tape (cut_written k 0 s es h) ∙ tape_back s (take k es) (take_storable k es h) (omega (arith, length-take k es)) hs
