-- A tape read one block at a time, as a loop over its blocks does it, and the two codes that go before all blocks.
-- Assumes nothing.
use mathlib.Core.Path.{◌≡◌, ap, ◌∙◌}
use mathlib.Core.Bool.{not}
use mathlib.Core.List.{List, [], ◌∷◌}
use Prim.Native.Nat.{ℕ, suc, ◌+◌, ◌*◌, ◌/◌, ◌%◌, ◌≤◌, ◌<◌}
use native.Mathlib.Omega.{arith}
use lib.ListN.{length, take, drop, length-drop}
use lib.Seq.{drop-drop}
use borrow.Author.Tests.{lt-ltb, le-ltb, eq-eqb, ne_eqb}
use Rattle.slices.proofs.Choice.{pick_yes, pick_no}
use Rattle.tape_read.specs.Entries.{block_size, tape_most}
use Rattle.tape_read.specs.Blocks.{code_of, entry_in}
use Rattle.tape_read.specs.Tapes.{entries, unreadable, preceded, cut, blocks_of, read_blocks, read_from, session_of, read_tape}

-- no whole block is left, or one and those of the rest
pub blocks_end : (t : List ℕ) → length t < block_size → blocks_of t ≡ []
unfolding blocks_of cut
blocks_end t h =
    let none : length t / block_size ≡ 0 = omega arith in
    ap (λ (k : ℕ). cut k t) none

pub blocks_more : (t : List ℕ) → block_size ≤ length t → blocks_of t ≡ take block_size t ∷ blocks_of (drop block_size t)
unfolding blocks_of cut
blocks_more t h =
    let one : length t / block_size ≡ suc (length (drop block_size t) / block_size) = omega (arith, length-drop block_size t) in
    ap (λ (k : ℕ). cut k t) one

module _ (n s : ℕ) (rest : List ℕ) where
  pub read_end : length rest < block_size → read_from n s rest ≡ entries []
  unfolding read_from read_blocks
  read_end h = ap (read_blocks n s) (blocks_end rest h)

  module _ (more : block_size ≤ length rest) where
    -- the next block is bad: it is the one named
    pub read_bad : (code_of n s (take block_size rest) ≡ 0 → ⊥) → read_from n s rest ≡ unreadable n (code_of n s (take block_size rest))
    unfolding read_from read_blocks
    read_bad bad = ap (read_blocks n s) (blocks_more rest more) ∙ pick_no _ _ _ (ne_eqb _ _ bad)

    -- the next block is good: its entry comes first
    pub read_good : code_of n s (take block_size rest) ≡ 0
        → read_from n s rest ≡ preceded (entry_in (take block_size rest)) (read_from (n + 1) s (drop block_size rest))
    unfolding read_from read_blocks
    read_good good = ap (read_blocks n s) (blocks_more rest more) ∙ pick_yes _ _ _ (eq-eqb _ _ good)

-- what is left of a tape from block n on is, without that block, what is left from the next
pub rest_next : (n : ℕ) (t : List ℕ) → drop block_size (drop (n * block_size) t) ≡ drop ((n + 1) * block_size) t
rest_next n t =
    let place : n * block_size + block_size ≡ (n + 1) * block_size = omega arith in
    drop-drop block_size (n * block_size) t ∙ ap (λ (k : ℕ). drop k t) place

module _ (t : List ℕ) where
  -- too long, whatever else
  pub tape_long : tape_most < length t → read_tape t ≡ unreadable 0 1
  unfolding read_tape
  tape_long h = pick_yes _ _ _ (lt-ltb _ _ h)

  module _ (fits : length t ≤ tape_most) where
    -- no multiple of a block, whatever the blocks say
    pub tape_ragged : (length t % block_size ≡ 0 → ⊥) → read_tape t ≡ unreadable (length t / block_size) 2
    unfolding read_tape
    tape_ragged h = pick_no _ _ _ (le-ltb _ _ fits) ∙ pick_yes _ _ _ (ap not (ne_eqb _ _ h))

    pub tape_blocks : length t % block_size ≡ 0 → read_tape t ≡ read_from 0 (session_of t) t
    unfolding read_tape
    tape_blocks h = pick_no _ _ _ (le-ltb _ _ fits) ∙ pick_no _ _ _ (ap not (eq-eqb _ _ h))
