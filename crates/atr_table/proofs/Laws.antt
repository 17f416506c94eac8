-- Turning twice changes nothing: one test, computed over the 256 bytes.
-- Assumes nothing.
use mathlib.Core.Path.{◌≡◌, refl, subst, sym}
use mathlib.Core.Bool.{Bool, true, ◌&&◌, and-eq-true_iff}
use Prim.Native.Nat.{ℕ, zero, suc, ◌<◌}
use native.Mathlib.Nat.{not-suc-le-zero}
use native.Mathlib.Omega.{arith}
use lib.Dec.{eqb}
use borrow.Author.Tests.{eqb-true, eqb-false}
use Rattle.slices.proofs.Choice.{either}
use Rattle.atr_table.specs.Turning.{opposite, turned}

-- a test that passes at each number below n
abbrev pub below : (ℕ → Bool) → ℕ → Bool
below test zero = true
below test (suc n) = test n && below test n

pub at_each : (test : ℕ → Bool) (n : ℕ) → below test n ≡ true → (k : ℕ) → k < n → test k ≡ true
at_each test zero e k h = absurd (not-suc-le-zero h)
at_each test (suc n) e k h =
    let both = (and-eq-true_iff (test n) (below test n)).0 e in
    either (eqb k n)
    (λ y. subst (λ (m : ℕ). test m ≡ true) (sym (eqb-true k n y)) both.0)
    (λ y. at_each test n both.1 k (omega (arith, eqb-false k n y)))

comes_back : below (λ b. eqb (turned (turned b)) b) 256 ≡ true
unfolding turned opposite
comes_back = refl

pub turned_twice : (b : ℕ) → b < 256 → turned (turned b) ≡ b
turned_twice b h = eqb-true (turned (turned b)) b (at_each (λ b. eqb (turned (turned b)) b) 256 comes_back b h)

-- the initial character of the inverse convention, as a line byte and as data
pub initial : turned 0x03 ≡ 0x3F
unfolding turned opposite
initial = refl
