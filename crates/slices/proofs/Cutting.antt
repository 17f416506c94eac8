-- A part of a list that is cut at the list's end: any number of elements that reaches the end gives the same part.
-- Assumes nothing.
use mathlib.Core.Path.{◌≡◌, refl, ap, ◌∙◌}
use mathlib.Core.List.{List, [], ◌∷◌}
use Prim.Native.Nat.{ℕ, ◌≤◌, ◌+◌, ◌-◌}
use native.Mathlib.Omega.{arith}
use lib.ListN.{length, take, drop, length-drop, drop_of_length-le}
use lib.Seq.{take_all, take-nil}

-- nothing stands past the end
pub past_end : (n from : ℕ) (s : List ℕ) → length s ≤ from → take n (drop from s) ≡ []
past_end n from s h = ap (take n) (drop_of_length-le s h) ∙ take-nil n

pub to_end : (n from : ℕ) (s : List ℕ) → length s ≤ from + n → take n (drop from s) ≡ drop from s
to_end n from s h = take_all n (drop from s) (simp length-drop (omega arith))

-- the part from a place to the end is what is left from there
pub rest_part : (s : List ℕ) (p : ℕ) → take (length s - p) (drop p s) ≡ drop p s
rest_part s p = to_end (length s - p) p s (omega arith)

-- a list without elements
pub none_left : (s : List ℕ) → length s ≡ 0 → s ≡ []
none_left [] e = refl
none_left (b ∷ s) e = absurd (omega arith)
