-- A tape number looked for block by block: the block at the place settles it, or what is left of the blocks does.
-- Assumes nothing.
use mathlib.Core.Path.{◌≡◌, refl, ap, ◌∙◌}
use mathlib.Core.Bool.{true, false}
use mathlib.Core.List.{List, [], ◌∷◌, ◌++◌}
use Prim.Native.Nat.{ℕ, zero, suc, min, ◌+◌, ◌-◌, ◌*◌, ◌/◌, ◌<◌, ◌≤◌}
use native.Mathlib.Omega.{arith}
use lib.ListN.{length, take, drop}
use lib.Seq.{drop-drop}
use borrow.Author.Tests.{eq-eqb, ne_eqb}
use Rattle.slices.proofs.Choice.{pick_yes, pick_no}
use Rattle.tape_read.specs.Entries.{block_size}
use Rattle.tape_read.specs.Tapes.{block_at}
use Rattle.tape_read.proofs.Steps.{rest_next}
use Rattle.book_block.specs.Blocks.{tape_in, entry_in}
use Rattle.book_block.specs.declared.Entry.{Entry}
use Rattle.book.specs.Entering.{entries_in, stored, entered}

-- the entries in blocks k to n
abbrev pub from : ℕ → ℕ → List ℕ → List Entry
from k n t = entries_in (n - k) (drop (k * block_size) t)

module _ (tape k n : ℕ) (t : List ℕ) where
  -- none is left
  pub search_over : n ≤ k → entered tape (from k n t) ≡ false
  unfolding entries_in entered
  search_over h =
      let none : n - k ≡ 0 = omega arith in
      ap (λ (m : ℕ). entered tape (entries_in m (drop (k * block_size) t))) none

  module _ (h : k < n) where
    first_left : from k n t ≡ entry_in (block_at k t) ∷ from (k + 1) n t
    unfolding entries_in block_at
    first_left =
        let one : n - k ≡ suc (n - (k + 1)) = omega arith in
        ap (λ (m : ℕ). entries_in m (drop (k * block_size) t)) one
        ∙ ap (λ (l : List ℕ). entry_in (block_at k t) ∷ entries_in (n - (k + 1)) l) (rest_next k t)

    pub search_found : tape_in (block_at k t) ≡ tape → entered tape (from k n t) ≡ true
    unfolding entered entry_in
    search_found e = ap (entered tape) first_left ∙ pick_yes _ _ _ (eq-eqb _ _ e)

    pub search_on : (tape_in (block_at k t) ≡ tape → ⊥) → entered tape (from k n t) ≡ entered tape (from (k + 1) n t)
    unfolding entered entry_in
    search_on e = ap (entered tape) first_left ∙ pick_no _ _ _ (ne_eqb _ _ e)

pub entries_length : (n : ℕ) (t : List ℕ) → length (entries_in n t) ≡ n
unfolding entries_in
entries_length zero t = refl
entries_length (suc n) t = ap suc (entries_length n (drop block_size t))

-- one block more
pub entries_more : (n : ℕ) (t : List ℕ) → entries_in (suc n) t ≡ entries_in n t ++ (entry_in (block_at n t) ∷ [])
unfolding entries_in block_at
entries_more zero t = refl
entries_more (suc n) t =
    let place : block_size + n * block_size ≡ suc n * block_size = omega arith in
    ap (◌∷◌ (entry_in (take block_size t)))
    (entries_more n (drop block_size t)
    ∙ ap (λ (l : List ℕ). entries_in n (drop block_size t) ++ (entry_in (take block_size l) ∷ []))
    (drop-drop (n * block_size) block_size t ∙ ap (λ (k : ℕ). drop k t) place))

-- blocks used that are all there
pub stored_there : (n : ℕ) (t : List ℕ) → n * block_size ≤ length t → stored n t ≡ entries_in n t
unfolding stored
stored_there n t h =
    let all : min n (length t / block_size) ≡ n = omega arith in
    ap (λ (k : ℕ). entries_in k t) all
