-- What stands in a row of bits: what each bit of a register leaves behind the zeros of its row. Assumes nothing.
use mathlib.Core.Path.{◌≡◌, sym, ap, ◌∙◌}
use mathlib.Core.List.{List}
use Prim.Native.Nat.{ℕ, zero, suc, ◌+◌, ◌*◌, ◌%◌, ◌^◌, ◌-◌, ◌<◌}
use native.Mathlib.Omega.{arith}
use lib.Dec.{eqb}
use lib.ListN.{get_or}
use borrow.Author.Tests.{eqb-true, eq-eqb, ne_eqb, lt-ltb, le-ltb}
use Rattle.slices.specs.Choice.{pick}
use Rattle.slices.proofs.Choice.{pick_yes, pick_no}
use Rattle.tape_crc.specs.Check.{shifted, divided}
use Rattle.tape_crc.proofs.Division.{divided_more}
use Rattle.tape_crc.proofs.Entries.{entry}
use Rattle.tape_crc.proofs.Parts.{bit_below}
use Rattle.quick_check.specs.Tables.{step, highest, passes, Behind}

module _ {t : List ℕ} (h : Behind t) where
  -- the rule at a bit of a row
  rule : (f k : ℕ) → f < 16 → k < 32
      → get_or t (32 * f + k) 0 ≡ pick (eqb ((32 * f + k) % 32) 31) (highest t (32 * f + k)) (shifted (get_or t (32 * f + k + 1) 0))
  rule f k row bit = eqb-true _ _ (entry (passes t) t h.passing (32 * f + k) (omega (arith, h.size)))

  top : (f : ℕ) → f < 16 → get_or t (32 * f + 31) 0 ≡ highest t (32 * f + 31)
  top f row =
      let last : (32 * f + 31) % 32 ≡ 31 = omega arith in
      rule f 31 row (omega arith) ∙ pick_yes _ _ _ (eq-eqb _ _ last)

  lower : (f k : ℕ) → f < 16 → k < 31 → get_or t (32 * f + k) 0 ≡ shifted (get_or t (32 * f + suc k) 0)
  lower f k row bit =
      let above : 32 * f + k + 1 ≡ 32 * f + suc k = omega arith in
      rule f k row (omega arith) ∙ (pick_no _ _ _ (ne_eqb _ _ other) ∙ ap (λ (i : ℕ). shifted (get_or t i 0)) above)
    where
      other : (32 * f + k) % 32 ≡ 31 → ⊥
      other e = omega arith

  -- the highest bits, row by row
  top_at : (f : ℕ) → f < 16 → get_or t (32 * f + 31) 0 ≡ divided (8 * (step * f)) (2 ^ 31)
  unfolding divided
  top_at zero row = top zero row ∙ pick_yes _ _ _ (lt-ltb 31 32 (omega arith))
  top_at (suc f) row =
      top (suc f) row
      ∙ (pick_no _ _ _ (le-ltb (32 * suc f + 31) 32 (omega arith))
      ∙ (ap (λ (i : ℕ). divided (8 * step) (get_or t i 0)) (before f)
      ∙ (ap (divided (8 * step)) (top_at f (omega arith))
      ∙ (sym (divided_more (8 * (step * f)) (8 * step) (2 ^ 31)) ∙ ap (λ (n : ℕ). divided n (2 ^ 31)) (further f)))))
    where
      before : (f : ℕ) → 32 * suc f + 31 - 32 ≡ 32 * f + 31
      before f = omega arith

      further : (f : ℕ) → 8 * (step * f) + 8 * step ≡ 8 * (step * suc f)
      further f = omega arith

  -- so many bits below the highest
  down : (f d k : ℕ) → f < 16 → d + k ≡ 31 → get_or t (32 * f + k) 0 ≡ divided (8 * (step * f)) (2 ^ k)
  down f zero k row e =
      ap (λ (b : ℕ). get_or t (32 * f + b) 0) last ∙ (top_at f row ∙ ap (λ (b : ℕ). divided (8 * (step * f)) (2 ^ b)) (sym last))
    where
      last : k ≡ 31
      last = omega arith
  down f (suc d) k row e =
      lower f k row (omega arith) ∙ (ap shifted (down f d (suc k) row (omega arith)) ∙ sym (bit_below (8 * (step * f)) k))

  pub behind_at : (f k : ℕ) → f < 16 → k < 32 → get_or t (32 * f + k) 0 ≡ divided (8 * (step * f)) (2 ^ k)
  behind_at f k row bit = down f (31 - k) k row (omega arith)
