-- Further laws of the notions that all crates share: the first test that holds decides, a part that was lent comes back as
-- a write, and zeros are bytes.
-- Assumes nothing.
use mathlib.Core.Path.{◌≡◌, refl, sym, ap, ap₂, ◌∙◌}
use mathlib.Core.Bool.{Bool, true, false, not}
use mathlib.Core.List.{List, [], ◌∷◌, ◌++◌}
use Prim.Native.Nat.{ℕ, zero, suc, ◌≤◌, ◌<◌}
use native.Mathlib.Decide.{dec_lt}
use native.Mathlib.Omega.{arith}
use lib.Dec.{leb, ltb}
use lib.ListN.{length, take, drop}
use lib.Pow.{are_bytes}
use borrow.Author.Tests.{lt-ltb, le-ltb, le-leb, lt-leb}
use Rattle.slices.specs.Choice.{pick, first_of}
use Rattle.slices.specs.Writing.{put, zeros}
use Rattle.slices.proofs.Choice.{pick_yes, pick_no}

pub first_hit : (t : Bool) (k : ℕ) (lines : List (Bool × ℕ)) → t ≡ true → first_of ((t, k) ∷ lines) ≡ k
unfolding first_of
first_hit t k lines e = pick_yes _ _ _ e

pub first_skip : (t : Bool) (k : ℕ) (lines : List (Bool × ℕ)) → t ≡ false → first_of ((t, k) ∷ lines) ≡ first_of lines
unfolding first_of
first_skip t k lines e = pick_no _ _ _ e

pub first_end : first_of [] ≡ 0
unfolding first_of
first_end = refl

-- where nothing is found, no test holds
pub first_none : (t : Bool) (k : ℕ) (lines : List (Bool × ℕ)) → first_of ((t, suc k) ∷ lines) ≡ 0 → (t ≡ false) × (first_of lines ≡ 0)
unfolding first_of pick
first_none true k lines e = absurd (omega arith)
first_none false k lines e = (refl, e)

pub zeros_bytes : (n : ℕ) → are_bytes (zeros n) ≡ true
unfolding zeros
zeros_bytes zero = refl
zeros_bytes (suc n) = zeros_bytes n

-- below is not at least
pub below_not : (a b : ℕ) → ltb a b ≡ not (leb b a)
below_not a b = go (dec_lt a b)
  where
    go : Dec (a < b) → ltb a b ≡ not (leb b a)
    go (yes h) = lt-ltb a b h ∙ sym (ap not (lt-leb b a h))
    go (no h) =
        let le : b ≤ a = omega (arith, h) in
        le-ltb a b le ∙ sym (ap not (le-leb b a le))

-- a part of a buffer that was lent and comes back as other bytes
pub put_part : (s t : List ℕ) (p k : ℕ) (d : List ℕ) → t ≡ s → length s ≡ k → take p d ++ (t ++ drop k (drop p d)) ≡ put s p d
unfolding put
put_part s t p k d e h = ap₂ (λ (x : List ℕ) (n : ℕ). take p d ++ (x ++ drop n (drop p d))) e (sym h)
