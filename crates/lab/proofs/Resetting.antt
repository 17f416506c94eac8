-- An answer to reset as numbers, by what it reads as.
-- Assumes nothing.
use mathlib.Core.Path.{◌≡◌, refl, sym, ap, ◌∙◌}
use mathlib.Core.Bool.{true, false}
use mathlib.Core.List.{List, ◌∷◌, ◌++◌}
use Rattle.std.proofs.Common.{Ok, Err}
use Prim.Native.Nat.{ℕ}
use lib.ListN.{get_or}
use Rattle.atr.specs.declared.Reset.{Reset}
use Rattle.atr.specs.declared.Broken.{Broken}
use Rattle.atr.specs.declared.Protocol.{Protocol}
use Rattle.atr.specs.declared.Protocol.TheVariants.{T0, T1}
use Rattle.atr.specs.declared.Told.{Told}
use Rattle.lab.specs.Resets.{bit, laid_protocol, laid_told, laid_broken, laid_reading, accepts, is_accepted, laid_reset}

module _ (a r : Reset) (same : a ≡ r) (n : ℕ) (b : n ≡ bit a.inverse) (xs : List ℕ) where
  pub accepted : (t : Told) → a.reading ≡ Ok t → xs ≡ laid_told n t → (true ≡ is_accepted r) × (xs ≡ laid_reset r)
  unfolding accepts laid_reading
  accepted t told laid = (
    sym (ap accepts told) ∙ ap is_accepted same,
    laid ∙ (ap (λ (m : ℕ). laid_told m t) b ∙ (sym (ap (laid_reading (bit a.inverse)) told) ∙ ap laid_reset same)),
  )

  pub refused : (k : Broken) → a.reading ≡ Err k → xs ≡ laid_broken n k → (false ≡ is_accepted r) × (xs ≡ laid_reset r)
  unfolding accepts laid_reading
  refused k told laid = (
    sym (ap accepts told) ∙ ap is_accepted same,
    laid ∙ (ap (λ (m : ℕ). laid_broken m k) b ∙ (sym (ap (laid_reading (bit a.inverse)) told) ∙ ap laid_reset same)),
  )

-- four numbers of a list, taken one by one
abbrev pub taken : List ℕ → List ℕ → List ℕ
taken p l = get_or p 0 0 ∷ get_or p 1 0 ∷ get_or p 2 0 ∷ get_or p 3 0 ∷ l

pub four : (q : Protocol) (l : List ℕ) → taken (laid_protocol q) l ≡ laid_protocol q ++ l
unfolding laid_protocol
four (T0 wi) l = refl
four (T1 ifsc bwi cwi) l = refl
