-- Bits that are added up with their weights are the set of a list of rules; and the set of two lists, one behind the other, is
-- that of the first with that of the second above it.
-- Assumes nothing.
use mathlib.Core.Path.{◌≡◌, sym, ap, ◌∙◌}
use mathlib.Core.Bool.{Bool, true, false, not}
use mathlib.Core.List.{List, [], ◌∷◌, ◌++◌}
use Prim.Native.Nat.{ℕ, ◌+◌, ◌*◌, ◌^◌}
use native.Mathlib.Nat.{mul_assoc, mul_comm, pow-suc}
use native.Mathlib.Omega.{arith}
use lib.ListN.{length}
use Rattle.atr_characters.specs.Data.{one_if}
use Rattle.atr_rules.specs.Lines.{Line, set_of}

-- the answer of `is_none`, by what it promises
pub none_is : {there : Bool} (none : Bool) → there ≡ not none → none ≡ not there
none_is true e = sym (ap not e)
none_is false e = sym (ap not e)

module _ {a b c d w x y z : ℕ} (ea : a ≡ w) (eb : b ≡ x) (ec : c ≡ y) (ed : d ≡ z) where
  pub four : a + 2 * b + 4 * c + 8 * d ≡ w + 2 * (x + 2 * (y + 2 * (z + 2 * 0)))
  four = omega arith

  module _ {e f u v : ℕ} (ee : e ≡ v) (ef : f ≡ u) where
    pub six : a + 2 * b + 4 * c + 8 * d + 16 * e + 32 * f ≡ w + 2 * (x + 2 * (y + 2 * (z + 2 * (v + 2 * (u + 2 * 0)))))
    six = omega arith

    pub seven : {g t : ℕ} → g ≡ t
        → a + 2 * b + 4 * c + 8 * d + 16 * e + 32 * f + 64 * g ≡ w + 2 * (x + 2 * (y + 2 * (z + 2 * (v + 2 * (u + 2 * (t + 2 * 0))))))
    seven eg = omega arith

-- what is above moves up by a bit for each rule below
double : (o s p t : ℕ) → o + 2 * (s + p * t) ≡ o + 2 * s + p * 2 * t
double o s p t = let moved : p * 2 * t ≡ 2 * (p * t) = ap (λ (q : ℕ). q * t) (mul_comm p 2) ∙ mul_assoc 2 p t in omega arith

pub set_append : (xs ys : List Line) → set_of (xs ++ ys) ≡ set_of xs + 2 ^ length xs * set_of ys
unfolding set_of
set_append [] ys = omega arith
set_append (x ∷ xs) ys =
    ap (λ (s : ℕ). one_if x.broken + 2 * s) (set_append xs ys)
    ∙ (double (one_if x.broken) (set_of xs) (2 ^ length xs) (set_of ys)
    ∙ ap (λ (p : ℕ). one_if x.broken + 2 * set_of xs + p * set_of ys) (sym (pow-suc 2 (length xs))))
