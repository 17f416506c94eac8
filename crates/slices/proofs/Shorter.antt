-- The recursion on shorter lists: the function that a step describes is the step applied to the function itself. However
-- many steps are granted beyond the list's length, the answer is the same, since each asks only of shorter lists.
-- Assumes nothing.
use mathlib.Core.Path.{◌≡◌}
use mathlib.Core.List.{List}
use Prim.Native.Nat.{ℕ, zero, suc, ◌<◌}
use native.Mathlib.Nat.{le_refl, not-suc-le-zero}
use native.Mathlib.Omega.{arith}
use lib.ListN.{length}
use Rattle.slices.specs.Shorter.{counted, shorter, Asks}

module _ {B : Type 0} (step : (List ℕ → B) → List ℕ → B) (end : B) (asks : Asks step) where
  -- two numbers of steps that both exceed the list's length
  enough : (n m : ℕ) (s : List ℕ) → length s < n → length s < m → counted step end n s ≡ counted step end m s
  unfolding counted
  enough zero m s h k = absurd (not-suc-le-zero h)
  enough (suc n) zero s h k = absurd (not-suc-le-zero k)
  enough (suc n) (suc m) s h k = asks (counted step end n) (counted step end m) s (λ t l. enough n m t (omega arith) (omega arith))

  pub equation : (s : List ℕ) → shorter step end s ≡ step (shorter step end) s
  unfolding shorter counted
  equation s = asks (counted step end (length s)) (shorter step end) s (λ t l. enough (length s) (suc (length t)) t l (le_refl _))

-- a property that holds of a list whenever it holds of all shorter ones holds of every list
module _ (P : List ℕ → Type 0) (turn : (s : List ℕ) → ((t : List ℕ) → length t < length s → P t) → P s) where
  below : (n : ℕ) (s : List ℕ) → length s < n → P s
  below zero s h = absurd (not-suc-le-zero h)
  below (suc n) s h = turn s (λ t l. below n t (omega arith))

  pub by_length : (s : List ℕ) → P s
  by_length s = below (suc (length s)) s (le_refl _)
