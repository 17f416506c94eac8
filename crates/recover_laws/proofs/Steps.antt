-- The good blocks from a step on: none where no whole step is left, else those from the next step on, behind the block that stands there
-- where it is good. Laws of whole tapes are inductions over the steps that are left.
-- Assumes nothing.
use mathlib.Core.Path.{◌≡◌, refl, ap, ◌∙◌}
use mathlib.Core.Bool.{true, false}
use mathlib.Core.List.{List, [], ◌∷◌}
use Prim.Native.Nat.{ℕ, zero, suc, ◌+◌, ◌*◌, ◌/◌, ◌≤◌, ◌<◌}
use native.Mathlib.Omega.{arith}
use lib.Dec.{ltb}
use lib.ListN.{length, drop, length-drop}
use lib.Seq.{length-take-le}
use borrow.Author.Tests.{ltb-true, ltb-false}
use Rattle.slices.specs.Choice.{pick}
use Rattle.slices.proofs.Choice.{pick_yes, pick_no, either}
use Rattle.tape_read.specs.Entries.{block_size}
use Rattle.tape_read.specs.Tapes.{block_at, blocks_of}
use Rattle.recover.specs.Salvage.{is_good, Salvaged, standing, good_of, salvaged}
use Rattle.recover.proofs.Walk.{steps_end, steps_more}

-- the whole steps of some bytes
abbrev pub steps : List ℕ → ℕ
steps t = length t / block_size

unfoldable pub good_from : List ℕ → ℕ → List Salvaged
good_from t k = good_of k (blocks_of (drop (k * block_size) t))

module _ (t : List ℕ) where
  pub from_start : good_from t 0 ≡ salvaged t
  unfolding good_from salvaged
  from_start = refl

  module _ (k : ℕ) where
    pub good_end : steps t ≤ k → good_from t k ≡ []
    unfolding good_from good_of
    good_end past = ap (good_of k) (steps_end t k past)

    module _ (there : k < steps t) where
      pub good_step : good_from t k ≡ pick (is_good (block_at k t)) (standing k (block_at k t) ∷ good_from t (k + 1)) (good_from t (k + 1))
      unfolding good_from good_of
      good_step = ap (good_of k) (steps_more t k there)

      pub good_here : is_good (block_at k t) ≡ true → good_from t k ≡ standing k (block_at k t) ∷ good_from t (k + 1)
      good_here good = good_step ∙ pick_yes _ _ _ good

      pub good_on : is_good (block_at k t) ≡ false → good_from t k ≡ good_from t (k + 1)
      good_on bad = good_step ∙ pick_no _ _ _ bad

      -- a whole step is a whole block
      pub step_whole : length (block_at k t) ≡ block_size
      unfolding block_at
      step_whole = length-take-le block_size (drop (k * block_size) t) (omega (arith, length-drop (k * block_size) t))

-- what holds where no step is left, and at a step where it holds behind it, holds from every step on
pub by_steps : (n : ℕ) (P : ℕ → Type 0) → ((k : ℕ) → n ≤ k → P k) → ((k : ℕ) → k < n → P (k + 1) → P k) → (k : ℕ) → P k
by_steps n P end back k = go n k (omega arith)
  where
    go : (left j : ℕ) → n ≤ left + j → P j
    go zero j h = end j (omega arith)
    go (suc left) j h =
        either (ltb j n)
        (λ there. back j (ltb-true j n there) (go left (j + 1) (omega arith)))
        (λ past. end j (ltb-false j n past))
