-- A number between two limits, below them, or above them.
-- Assumes nothing.
use mathlib.Core.Path.{◌≡◌, refl, sym, ap, ◌∙◌}
use mathlib.Core.Bool.{true, false, not}
use Prim.Native.Nat.{ℕ, ◌≤◌, ◌<◌}
use lib.Dec.{leb, ltb}
use borrow.Author.Tests.{le-leb, lt-leb, leb-true, lt-ltb, ltb-true, ltb-false}
use Rattle.slices.proofs.Choice.{either}
use Rattle.slices.specs.Tests.{between}
use Rattle.slices.proofs.Tests.{held, failed, last, first_held}

module _ (low high n : ℕ) where
  pub between_in : low ≤ n → n ≤ high → between low high n ≡ true
  unfolding between
  between_in l h = held refl _ (le-leb low n l) ∙ (last refl ∙ le-leb n high h)

  pub between_below : n < low → between low high n ≡ false
  unfolding between
  between_below l = let e = lt-leb low n l in failed refl _ e ∙ e

  pub between_above : high < n → between low high n ≡ false
  unfolding between
  between_above h = either (leb low n) (λ y. held refl _ y ∙ (last refl ∙ lt-leb n high h)) (λ e. failed refl _ e ∙ e)

  -- the two tests of a number that is out of bounds
  pub below_out : n < low → ltb n low ≡ not (between low high n)
  below_out l = lt-ltb n low l ∙ sym (ap not (between_below l))

  pub above_out : low ≤ n → ltb high n ≡ not (between low high n)
  above_out l =
      either (ltb high n)
      (λ y. y ∙ sym (ap not (between_above (ltb-true high n y))))
      (λ e. e ∙ sym (ap not (between_in l (ltb-false high n e))))

  pub bounds : between low high n ≡ true → (low ≤ n) × (n ≤ high)
  unfolding between
  bounds e =
      let f = first_held (leb low n) _ e in
      let g = first_held (leb n high) _ f.1 in
      (leb-true low n f.0, leb-true n high g.0)
