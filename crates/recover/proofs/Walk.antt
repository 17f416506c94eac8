-- The next good block from a step on: none where no whole block is left, else the one that stands there, or what is next from the step
-- after it.
-- Assumes nothing.
use mathlib.Core.Path.{◌≡◌, ap, ◌∙◌}
use mathlib.Core.Bool.{true, false}
use mathlib.Core.List.{List, [], ◌∷◌}
use Rattle.std.proofs.Common.{None, Some}
use Prim.Native.Nat.{ℕ, ◌+◌, ◌*◌, ◌/◌, ◌≤◌, ◌<◌}
use native.Mathlib.Omega.{arith}
use lib.ListN.{length, drop, length-drop}
use Rattle.slices.proofs.Choice.{pick_yes, pick_no}
use Rattle.tape_read.specs.Entries.{block_size}
use Rattle.tape_read.specs.Tapes.{block_at, blocks_of}
use Rattle.tape_read.proofs.Steps.{blocks_end, blocks_more, rest_next}
use Rattle.recover.specs.Salvage.{is_good, told, first_good, next_from}

module _ (t : List ℕ) (k : ℕ) where
  -- the whole blocks from a step on
  pub steps_end : length t / block_size ≤ k → blocks_of (drop (k * block_size) t) ≡ []
  steps_end past = blocks_end (drop (k * block_size) t) (omega (arith, length-drop (k * block_size) t))

  pub steps_more : k < length t / block_size → blocks_of (drop (k * block_size) t)
      ≡ block_at k t ∷ blocks_of (drop ((k + 1) * block_size) t)
  unfolding block_at
  steps_more there =
      blocks_more (drop (k * block_size) t) (omega (arith, length-drop (k * block_size) t))
      ∙ ap (λ (rest : List ℕ). block_at k t ∷ blocks_of rest) (rest_next k t)

  pub next_end : length t / block_size ≤ k → next_from t k ≡ None
  unfolding next_from first_good
  next_end past = ap (first_good k) (steps_end past)

  module _ (there : k < length t / block_size) where
    pub next_here : is_good (block_at k t) ≡ true → next_from t k ≡ Some (told k (block_at k t))
    unfolding next_from first_good
    next_here good = ap (first_good k) (steps_more there) ∙ pick_yes _ _ _ good

    pub next_on : is_good (block_at k t) ≡ false → next_from t k ≡ next_from t (k + 1)
    unfolding next_from first_good
    next_on bad = ap (first_good k) (steps_more there) ∙ pick_no _ _ _ bad
