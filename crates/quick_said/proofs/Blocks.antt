-- The entries of a tape from a block on: the block's own and those of the rest, or none.
-- Assumes nothing.
use mathlib.Core.Path.{◌≡◌, ap, ◌∙◌}
use mathlib.Core.List.{List, [], ◌∷◌, map}
use Prim.Native.Nat.{ℕ, suc, ◌+◌, ◌*◌, ◌-◌, ◌/◌, ◌≤◌, ◌<◌}
use native.Mathlib.Omega.{arith}
use lib.ListN.{length, take, drop}
use Rattle.tape_read.specs.Entries.{block_size}
use Rattle.tape_read.specs.Blocks.{entry_in}
use Rattle.tape_read.specs.Tapes.{block_at, cut}
use Rattle.tape_read.proofs.Steps.{rest_next}
use Rattle.quick_said.specs.Said.{entries_from}

module _ (k : ℕ) (t : List ℕ) where
  pub from_end : length t / block_size ≤ k → entries_from k t ≡ []
  unfolding entries_from cut
  from_end h =
      let none : length t / block_size - k ≡ 0 = omega arith in
      ap (λ (n : ℕ). map entry_in (cut n (drop (k * block_size) t))) none

  pub from_more : k < length t / block_size → entries_from k t ≡ entry_in (block_at k t) ∷ entries_from (k + 1) t
  unfolding entries_from cut block_at
  from_more h =
      let more : length t / block_size - k ≡ suc (length t / block_size - (k + 1)) = omega arith in
      ap (λ (n : ℕ). map entry_in (cut n (drop (k * block_size) t))) more
      ∙ ap (λ (s : List ℕ). entry_in (take block_size (drop (k * block_size) t)) ∷ map entry_in (cut (length t / block_size - (k + 1)) s))
      (rest_next k t)
