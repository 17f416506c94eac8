-- A test that is put to events of one kind alone: it counts for that kind, and for no other.
-- Assumes nothing.
use mathlib.Core.Path.{◌≡◌, ap}
use mathlib.Core.Bool.{Bool, false, ◌&&◌}
use Prim.Native.Nat.{ℕ}
use lib.Dec.{eqb}
use borrow.Author.Tests.{eq-eqb, ne_eqb}

module _ (kind k : ℕ) (test : Bool) where
  pub of_kind : kind ≡ k → (eqb kind k && test) ≡ test
  of_kind e = ap (λ (b : Bool). b && test) (eq-eqb kind k e)

  pub other_kind : (kind ≡ k → ⊥) → (eqb kind k && test) ≡ false
  other_kind h = ap (λ (b : Bool). b && test) (ne_eqb kind k h)
