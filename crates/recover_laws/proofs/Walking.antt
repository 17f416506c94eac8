-- Asked from one good block to the next, or block by block, `next` and `payload` give exactly the list: what is next from a step on is the
-- first of the good blocks from there on, and its payload lies within its block.
-- Assumes nothing.
use mathlib.Core.Path.{◌≡◌, sym, ap, ◌∙◌}
use mathlib.Core.Bool.{true, false}
use mathlib.Core.List.{List, ◌∷◌}
use Rattle.std.proofs.Common.{Option, None, Some}
use Prim.Native.Nat.{ℕ, zero, suc, ◌+◌, ◌*◌, ◌≤◌, ◌<◌}
use native.Mathlib.Omega.{arith}
use lib.ListN.{length, take, drop, length-drop, take-append-drop}
use lib.Seq.{drop-drop, drop-append-le, take-append-le, length-take-le, take_all}
use borrow.Author.Tests.{ltb-false}
use Rattle.slices.specs.Choice.{pick}
use Rattle.slices.proofs.Choice.{pick_yes, pick_no, either}
use Rattle.tape_read.specs.Entries.{block_size, payload_most}
use Rattle.tape_read.specs.Blocks.{number_in, session_in, kind_in, payload_at, length_in, length_bad, payload_in}
use Rattle.tape_read.specs.Tapes.{block_at, blocks_of}
use Rattle.recover.specs.Salvage.{is_good, Salvaged, salvage, standing, told, next_from, payload_of, salvaged}
use Rattle.recover.specs.declared.Block.{Block}
use Rattle.recover.proofs.Own.{good_passes}
use Rattle.recover.proofs.Walk.{steps_end, steps_more, next_end, next_here, next_on}
use Rattle.recover_laws.specs.Walking.{taken, walk, placed, by_block}
use Rattle.recover_laws.proofs.Steps.{steps, good_from, from_start, good_end, good_step, good_here, good_on, step_whole, by_steps}

-- within a block it does not matter that the bytes go on behind it
within : (n p m : ℕ) (s : List ℕ) → p + n ≤ m → m ≤ length s → take n (drop p s) ≡ take n (drop p (take m s))
within n p m s h all =
    let size = length-take-le m s all in
    ap (λ (l : List ℕ). take n (drop p l)) (sym (take-append-drop m s))
    ∙ (ap (take n) (drop-append-le p (take m s) (drop m s) (omega arith))
    ∙ take-append-le n (drop p (take m s)) (drop m s) (omega (arith, length-drop p (take m s))))

-- the payload of a good block is that part of all the bytes where it is told to be
module _ (t : List ℕ) (k : ℕ) (there : k < steps t) (good : is_good (block_at k t) ≡ true) where
  sized : length_in (block_at k t) ≤ payload_most
  unfolding length_bad
  sized = ltb-false _ _ (good_passes (block_at k t) good).length

  part : payload_in (block_at k t) ≡ take (length_in (block_at k t)) (drop payload_at (block_at k t))
  unfolding payload_in
  part = pick_no _ _ _ (good_passes (block_at k t) good).length

  part_size : length (payload_in (block_at k t)) ≡ length_in (block_at k t)
  part_size =
      ap length part
      ∙ length-take-le _ (drop payload_at (block_at k t))
      (omega (arith, sized, length-drop payload_at (block_at k t), step_whole t k there))

  pub payload_there : payload_of t (Some (told k (block_at k t))) ≡ payload_in (block_at k t)
  unfolding block_at
  payload_there =
      let n = length_in (block_at k t) in
      let at = k * block_size in
      ap (λ (m : ℕ). take m (drop (at + payload_at) t)) part_size
      ∙ (ap (take n) (sym (drop-drop payload_at at t))
      ∙ (within n payload_at block_size (drop at t) (omega (arith, sized)) (omega (arith, length-drop at t)) ∙ sym part))

  taken_here : (others : ℕ → List Salvaged) → taken t (next_from t k) others ≡ standing k (block_at k t) ∷ others (k + 1)
  unfolding taken
  taken_here others =
      let b = block_at k t in
      ap (λ (f : Option Block). taken t f others) (next_here t k there good)
      ∙ ap (λ (p : List ℕ). salvage k (number_in b) (session_in b) (kind_in b) p ∷ others (k + 1)) payload_there

module _ (t : List ℕ) where
  -- the good blocks from a step on begin with what is next
  next_first : (k : ℕ) → good_from t k ≡ taken t (next_from t k) (good_from t)
  unfolding taken
  next_first =
      by_steps (steps t) (λ k. good_from t k ≡ taken t (next_from t k) (good_from t))
      (λ k past. good_end t k past ∙ sym (ap (λ (f : Option Block). taken t f (good_from t)) (next_end t k past)))
      (λ k there rest.
      either (is_good (block_at k t))
      (λ good. good_here t k there good ∙ sym (taken_here t k there good (good_from t)))
      (λ bad.
      good_on t k there bad ∙ (rest ∙ sym (ap (λ (f : Option Block). taken t f (good_from t)) (next_on t k there bad)))))

  -- and only what stands behind that step matters
  next_later : (f g : ℕ → List Salvaged) (k : ℕ) → ((j : ℕ) → k < j → f j ≡ g j) → taken t (next_from t k) f ≡ taken t (next_from t k) g
  unfolding taken
  next_later f g =
      by_steps (steps t) (λ k. ((j : ℕ) → k < j → f j ≡ g j) → taken t (next_from t k) f ≡ taken t (next_from t k) g)
      (λ k past same.
      ap (λ (x : Option Block). taken t x f) (next_end t k past)
      ∙ sym (ap (λ (x : Option Block). taken t x g) (next_end t k past)))
      (λ k there rest same.
      either (is_good (block_at k t))
      (λ good.
      taken_here t k there good f
      ∙ (ap (λ (l : List Salvaged). standing k (block_at k t) ∷ l) (same (k + 1) (omega arith)) ∙ sym (taken_here t k there good g)))
      (λ bad.
      ap (λ (x : Option Block). taken t x f) (next_on t k there bad)
      ∙ (rest (λ j h. same j (omega arith)) ∙ sym (ap (λ (x : Option Block). taken t x g) (next_on t k there bad)))))

  walk_from : (n k : ℕ) → steps t ≤ n + k → walk n t k ≡ good_from t k
  unfolding walk
  walk_from zero k all = sym (good_end t k (omega arith))
  walk_from (suc n) k all = next_later (walk n t) (good_from t) k (λ j h. walk_from n j (omega arith)) ∙ sym (next_first k)

  -- from step 0 on, as often as there are whole steps or oftener: exactly the list
  pub walked : (n : ℕ) → steps t ≤ n → walk n t 0 ≡ salvaged t
  walked n all = walk_from n 0 (omega arith) ∙ from_start t

-- ---- block by block

-- a block by itself is its own step 0
module _ (b : List ℕ) (whole : length b ≡ block_size) where
  alone : block_at 0 b ≡ b
  unfolding block_at
  alone = take_all block_size b (omega arith)

  pub alone_good : is_good b ≡ true → next_from b 0 ≡ Some (told 0 b)
  alone_good good = next_here b 0 (omega arith) (ap is_good alone ∙ good) ∙ ap (λ (x : List ℕ). Some (told 0 x)) alone

  pub alone_bad : is_good b ≡ false → next_from b 0 ≡ None
  alone_bad bad = next_on b 0 (omega arith) (ap is_good alone ∙ bad) ∙ next_end b 1 (omega arith)

  alone_payload : is_good b ≡ true → payload_of b (Some (told 0 b)) ≡ payload_in b
  alone_payload good =
      ap (λ (x : List ℕ). payload_of b (Some (told 0 x))) (sym alone)
      ∙ (payload_there b 0 (omega arith) (ap is_good alone ∙ good) ∙ ap payload_in alone)

  placed_step : (n : ℕ) (others : List Salvaged) → placed n b (next_from b 0) others ≡ pick (is_good b) (standing n b ∷ others) others
  unfolding placed
  placed_step n others =
      either (is_good b)
      (λ good.
      ap (λ (f : Option Block). placed n b f others) (alone_good good)
      ∙ (ap (λ (p : List ℕ). salvage n (number_in b) (session_in b) (kind_in b) p ∷ others) (alone_payload good)
      ∙ sym (pick_yes _ _ _ good)))
      (λ bad. ap (λ (f : Option Block). placed n b f others) (alone_bad bad) ∙ sym (pick_no _ _ _ bad))

module _ (t : List ℕ) where
  blocks_from : (k : ℕ) → by_block k (blocks_of (drop (k * block_size) t)) ≡ good_from t k
  unfolding by_block
  blocks_from =
      by_steps (steps t) (λ k. by_block k (blocks_of (drop (k * block_size) t)) ≡ good_from t k)
      (λ k past. ap (by_block k) (steps_end t k past) ∙ sym (good_end t k past))
      (λ k there rest.
      ap (by_block k) (steps_more t k there)
      ∙ (placed_step (block_at k t) (step_whole t k there) k _
      ∙ (ap (λ (l : List Salvaged). pick (is_good (block_at k t)) (standing k (block_at k t) ∷ l) l) rest ∙ sym (good_step t k there))))

  -- each whole block handed in by itself: exactly the list
  pub block_by_block : by_block 0 (blocks_of t) ≡ salvaged t
  block_by_block = blocks_from 0 ∙ from_start t
