-- Blocks overwritten in place by bytes that fail their check leave exactly the others, whatever the tape was: an overwritten step is not
-- good, and any other is as it was.
-- Assumes nothing.
use mathlib.Core.Path.{◌≡◌, refl, sym, ap, ap₂, ◌∙◌}
use mathlib.Core.Bool.{Bool, true, false}
use mathlib.Core.List.{List, ◌∷◌}
use Prim.Native.Nat.{ℕ, ◌+◌, ◌/◌, ◌<◌}
use native.Mathlib.Omega.{arith}
use Rattle.slices.specs.Choice.{pick}
use Rattle.slices.proofs.Choice.{pick_yes, pick_no, picked, pick_ap, either}
use Rattle.tape_read.specs.Entries.{block_size}
use Rattle.tape_read.specs.Blocks.{check_bad}
use Rattle.tape_read.specs.Tapes.{block_at}
use Rattle.recover.specs.Salvage.{is_good, Salvaged, standing, salvaged}
use Rattle.recover.proofs.Own.{bad_check}
use Rattle.recover_laws.specs.Damage.{Overwritten, untouched}
use Rattle.recover_laws.proofs.Steps.{steps, good_from, from_start, good_end, good_step, good_on, by_steps}

module _ (hit : ℕ → Bool) (b : Salvaged) (bs : List Salvaged) where
  pub left_out : hit b.step ≡ true → untouched hit (b ∷ bs) ≡ untouched hit bs
  unfolding untouched
  left_out h = pick_yes _ _ _ h

  pub left_in : hit b.step ≡ false → untouched hit (b ∷ bs) ≡ b ∷ untouched hit bs
  unfolding untouched
  left_in h = pick_no _ _ _ h

module _ (hit : ℕ → Bool) (t u : List ℕ) (same : steps u ≡ steps t) where
  module _ (k : ℕ) (there : k < steps t) (rest : good_from u (k + 1) ≡ untouched hit (good_from t (k + 1))) where
    -- an overwritten step is in neither list
    hit_step : hit k ≡ true → check_bad (block_at k u) ≡ true → good_from u k ≡ untouched hit (good_from t k)
    hit_step h bad =
        good_on u k (omega arith) (bad_check (block_at k u) bad)
        ∙ (rest
        ∙ sym (ap (untouched hit) (good_step t k there)
        ∙ picked (λ (l : List Salvaged). untouched hit l ≡ untouched hit (good_from t (k + 1))) (is_good (block_at k t)) _ _
        (λ good. left_out hit (standing k (block_at k t)) _ h)
        (λ bad. refl)))

    -- any other is in both, or in neither
    other_step : hit k ≡ false → block_at k u ≡ block_at k t → good_from u k ≡ untouched hit (good_from t k)
    other_step h kept =
        let b = block_at k t in
        good_step u k (omega arith)
        ∙ (ap₂ (λ (x : List ℕ) (l : List Salvaged). pick (is_good x) (standing k x ∷ l) l) kept rest
        ∙ (ap (λ (l : List Salvaged). pick (is_good b) l (untouched hit (good_from t (k + 1)))) (sym (left_in hit (standing k b) _ h))
        ∙ (sym (pick_ap (untouched hit) (is_good b) (standing k b ∷ good_from t (k + 1)) (good_from t (k + 1)))
        ∙ sym (ap (untouched hit) (good_step t k there)))))

  -- steps that are as they were, or fail their check
  pub steps_left : ((k : ℕ) → k < steps t → hit k ≡ false → block_at k u ≡ block_at k t)
      → ((k : ℕ) → k < steps t → hit k ≡ true → check_bad (block_at k u) ≡ true)
      → (k : ℕ) → good_from u k ≡ untouched hit (good_from t k)
  unfolding untouched
  steps_left kept fails =
      by_steps (steps t) (λ k. good_from u k ≡ untouched hit (good_from t k))
      (λ k past. good_end u k (omega arith) ∙ sym (ap (untouched hit) (good_end t k past)))
      (λ k there rest.
      either (hit k) (λ h. hit_step k there rest h (fails k there h)) (λ h. other_step k there rest h (kept k there h)))

-- what is left of any bytes that were overwritten so
pub overwritten_left : (hit : ℕ → Bool) (t u : List ℕ) → Overwritten hit t u → salvaged u ≡ untouched hit (salvaged t)
overwritten_left hit t u w =
    sym (from_start u)
    ∙ (steps_left hit t u (ap (λ (n : ℕ). n / block_size) w.size) (λ k there h. w.kept k h) w.fails 0
    ∙ ap (untouched hit) (from_start t))
