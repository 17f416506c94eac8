-- Bytes behind whole blocks: the good blocks of the whole are those of the front and, at the steps that follow, those of the rest. So a
-- tail that is no whole block adds nothing, and neither does a last block that fails its check: what an append leaves that was cut short,
-- on a tape that ends there or over older bytes.
-- Assumes nothing.
use mathlib.Core.Path.{◌≡◌, sym, ap, ap₂, ◌∙◌}
use mathlib.Core.Bool.{true}
use mathlib.Core.List.{List, [], ◌∷◌, ◌++◌, append-nil}
use Prim.Native.Nat.{ℕ, ◌+◌, ◌*◌, ◌%◌, ◌≤◌, ◌<◌}
use native.Mathlib.Omega.{arith}
use lib.ListN.{length, take, drop, length-append, length-drop}
use lib.Seq.{take_all, take_at, drop_at, drop-append-le, take-append-le, length-take-le}
use Rattle.slices.specs.Choice.{pick}
use Rattle.slices.specs.Writing.{put}
use Rattle.slices.proofs.Choice.{pick_no, pick_ap}
use Rattle.tape_read.specs.Entries.{block_size}
use Rattle.tape_read.specs.Blocks.{check_bad}
use Rattle.tape_read.specs.Tapes.{block_at, blocks_of}
use Rattle.tape_read.proofs.Steps.{blocks_end, blocks_more}
use Rattle.recover.specs.Salvage.{is_good, Salvaged, standing, good_of, salvaged, tail_of}
use Rattle.recover.proofs.Own.{bad_check}
use Rattle.recover_laws.specs.Damage.{torn, stored}
use Rattle.recover_laws.proofs.Steps.{steps, good_from, from_start, good_end, good_step, by_steps}

module _ (t r : List ℕ) where
  -- a whole step of the front is as it was
  front_block : (k : ℕ) → k < steps t → block_at k (t ++ r) ≡ block_at k t
  unfolding block_at
  front_block k there =
      ap (take block_size) (drop-append-le (k * block_size) t r (omega arith))
      ∙ take-append-le block_size (drop (k * block_size) t) r (omega (arith, length-drop (k * block_size) t))

  module _ (whole : length t % block_size ≡ 0) where
    others : List Salvaged
    others = good_of (steps t) (blocks_of r)

    at_seam : (k : ℕ) → k ≡ steps t → good_from (t ++ r) k ≡ good_from t k ++ others
    unfolding good_from others
    at_seam k here =
        ap₂ (λ (n : ℕ) (l : List ℕ). good_of n (blocks_of l)) here (drop_at t r (k * block_size) (omega arith))
        ∙ sym (ap (λ (l : List Salvaged). l ++ good_of (steps t) (blocks_of r)) (good_end t k (omega arith)))

    in_front : (k : ℕ) → k < steps t → good_from (t ++ r) (k + 1) ≡ good_from t (k + 1) ++ others
        → good_from (t ++ r) k ≡ good_from t k ++ others
    in_front k there rest =
        let b = block_at k t in
        good_step (t ++ r) k (omega (arith, length-append t r))
        ∙ (ap₂ (λ (x : List ℕ) (l : List Salvaged). pick (is_good x) (standing k x ∷ l) l) (front_block k there) rest
        ∙ (sym (pick_ap (λ (l : List Salvaged). l ++ others) (is_good b) (standing k b ∷ good_from t (k + 1)) (good_from t (k + 1)))
        ∙ sym (ap (λ (l : List Salvaged). l ++ others) (good_step t k there))))

    pub appended : salvaged (t ++ r) ≡ salvaged t ++ good_of (steps t) (blocks_of r)
    unfolding others
    appended =
        sym (from_start (t ++ r))
        ∙ (by_steps (steps t) (λ k. k ≤ steps t → good_from (t ++ r) k ≡ good_from t k ++ others)
        (λ k past most. at_seam k (omega arith))
        (λ k there rest most. in_front k there (rest (omega arith)))
        0 (omega arith)
        ∙ ap (λ (l : List Salvaged). l ++ others) (from_start t))

    nothing_more : good_of (steps t) (blocks_of r) ≡ [] → salvaged (t ++ r) ≡ salvaged t
    nothing_more none = appended ∙ (ap (λ (l : List Salvaged). salvaged t ++ l) none ∙ append-nil (salvaged t))

    -- a short tail adds no block, and is told by its length
    module _ (short : length r < block_size) where
      pub tail_left : salvaged (t ++ r) ≡ salvaged t
      unfolding good_of
      tail_left = nothing_more (ap (good_of (steps t)) (blocks_end r short))

      pub tail_told : tail_of (t ++ r) ≡ length r
      tail_told = omega (arith, length-append t r)

    -- a last block that fails its check adds none
    pub bad_last : length r ≡ block_size → check_bad r ≡ true → salvaged (t ++ r) ≡ salvaged t
    unfolding good_of
    bad_last size bad =
        let one : take block_size r ≡ r = take_all block_size r (omega arith) in
        let none : blocks_of (drop block_size r) ≡ [] = blocks_end (drop block_size r) (omega (arith, length-drop block_size r)) in
        nothing_more
        (ap (good_of (steps t)) (blocks_more r (omega arith) ∙ ap₂ ◌∷◌ one none)
        ∙ pick_no _ _ _ (bad_check r bad))

-- ---- an append that was torn, over older bytes

module _ (t : List ℕ) (whole : length t % block_size ≡ 0) (old b : List ℕ) (last : length old ≡ block_size) (full : length b ≡ block_size)
    (n : ℕ) (most : n ≤ block_size) where
  pub torn_last : stored (torn n (record { step = steps t; bytes = b }) ∷ []) (t ++ old) ≡ t ++ (take n b ++ drop n old)
  unfolding stored put
  torn_last =
      let at = steps t * block_size in
      let here : length t ≡ at = omega arith in
      let size : length (take n b) ≡ n = length-take-le n b (omega arith) in
      ap₂ (λ (x y : List ℕ). x ++ (take n b ++ y)) (take_at t old at here)
      (ap₂ drop size (drop_at t old at here))

  -- where what stands there then fails its check, the list is that of the tape before the append
  pub torn_append : check_bad (take n b ++ drop n old) ≡ true
      → salvaged (stored (torn n (record { step = steps t; bytes = b }) ∷ []) (t ++ old)) ≡ salvaged t
  torn_append bad =
      ap salvaged torn_last
      ∙ bad_last t (take n b ++ drop n old) whole
      (length-append (take n b) (drop n old) ∙ omega (arith, length-drop n old, length-take-le n b (omega arith))) bad
