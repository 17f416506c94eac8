-- No place and no code that a tape's reading gives is above what four bytes hold: there are no more entries and no later places than
-- blocks, and the codes are a short list. Assumes nothing.
use mathlib.Core.Path.{◌≡◌, refl, sym, ap, subst}
use mathlib.Core.Bool.{Bool}
use mathlib.Core.List.{List, [], ◌∷◌}
use Prim.Native.Nat.{ℕ, zero, suc, ◌+◌, ◌/◌, ◌%◌, ◌≤◌, ◌<◌}
use native.Mathlib.Decide.{dec_le, ℕ_discrete}
use native.Mathlib.Omega.{arith}
use lib.Dec.{eqb}
use lib.ListN.{length, drop}
use Rattle.slices.specs.Choice.{first_of}
use Rattle.slices.proofs.Choice.{picked}
use Rattle.tape_read.specs.Entries.{Entry, block_size, blocks_most, tape_most}
use Rattle.tape_read.specs.Blocks.{content_tests, code_of, entry_in}
use Rattle.tape_read.specs.Tapes.{Reading, entries, unreadable, preceded, cut, blocks_of, read_blocks, read_from, session_of, read_tape}
use Rattle.tape_read.proofs.Steps.{tape_long, tape_ragged, tape_blocks}

-- the last code
abbrev pub code_most : ℕ
code_most = 9

first_most : (t : Bool) (k : ℕ) (lines : List (Bool × ℕ)) → k ≤ code_most → first_of lines ≤ code_most
    → first_of ((t, k) ∷ lines) ≤ code_most
unfolding first_of
first_most t k lines a b = picked (λ n. n ≤ code_most) t k (first_of lines) (λ y. a) (λ n. b)

none_most : first_of [] ≤ code_most
unfolding first_of
none_most = omega arith

code_most_lem : (n s : ℕ) (b : List ℕ) → code_of n s b ≤ code_most
unfolding code_of content_tests
code_most_lem n s b =
    first_most _ 3 _ (omega arith) (first_most _ 4 _ (omega arith) (first_most _ 5 _ (omega arith) (first_most _ 6 _ (omega arith)
    (first_most _ 7 _ (omega arith) (first_most _ 8 _ (omega arith) (first_most _ 9 _ (omega arith) none_most))))))

-- a reading of k blocks from block n on: as many entries, or a place among them
unfoldable Among : ℕ → ℕ → Reading → Type 0
Among n k (entries es) = length es ≡ k
Among n k (unreadable place code) = (place < n + k) × (code ≤ code_most)

preceded_among : (n k : ℕ) (e : Entry) (r : Reading) → Among (n + 1) k r → Among n (suc k) (preceded e r)
unfolding preceded Among
preceded_among n k e (entries es) h = ap suc h
preceded_among n k e (unreadable place code) h = (omega (arith, h.0), h.1)

blocks_among : (n s : ℕ) (bs : List (List ℕ)) → Among n (length bs) (read_blocks n s bs)
unfolding read_blocks Among
blocks_among n s [] = refl
blocks_among n s (b ∷ bs) =
    picked (Among n (suc (length bs))) (eqb (code_of n s b) 0) _ _
    (λ y. preceded_among n (length bs) (entry_in b) (read_blocks (n + 1) s bs) (blocks_among (n + 1) s bs))
    (λ no. (omega arith, code_most_lem n s b))

cut_length : (n : ℕ) (t : List ℕ) → length (cut n t) ≡ n
unfolding cut
cut_length zero t = refl
cut_length (suc n) t = ap suc (cut_length n (drop block_size t))

-- not more entries than a tape has blocks, no later place, no higher code
unfoldable pub Small : Reading → Type 0
Small (entries es) = length es ≤ blocks_most
Small (unreadable place code) = (place ≤ blocks_most) × (code ≤ code_most)

among_small : (k : ℕ) (r : Reading) → k ≤ blocks_most → Among 0 k r → Small r
unfolding Among Small
among_small k (entries es) h a = omega arith
among_small k (unreadable place code) h a = (omega (arith, a.0), a.1)

-- whatever a tape reads as
pub tape_small : (t : List ℕ) → Small (read_tape t)
unfolding Small read_from blocks_of
tape_small t = size (dec_le (length t) tape_most)
  where
    blocks : length t ≤ tape_most → Dec (length t % block_size ≡ 0) → Small (read_tape t)
    blocks fits (yes even) =
        subst Small (sym (tape_blocks t fits even))
        (among_small (length (cut (length t / block_size) t)) _ (omega (arith, cut_length (length t / block_size) t))
        (blocks_among 0 (session_of t) (cut (length t / block_size) t)))
    blocks fits (no odd) = subst Small (sym (tape_ragged t fits odd)) (omega arith, omega arith)

    size : Dec (length t ≤ tape_most) → Small (read_tape t)
    size (yes fits) = blocks fits (ℕ_discrete (length t % block_size) 0)
    size (no long) = subst Small (sym (tape_long t (omega (arith, long)))) (omega arith, omega arith)
