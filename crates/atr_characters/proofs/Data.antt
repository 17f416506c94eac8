-- A capture as data has as many bytes, each at its own place; so a part of it, as data, is the same part of the data.
-- Assumes nothing.
use mathlib.Core.Path.{◌≡◌, refl, ap, ◌∙◌}
use mathlib.Core.Bool.{Bool}
use mathlib.Core.List.{List, [], ◌∷◌, map}
use Prim.Native.Nat.{ℕ, zero, suc, ◌+◌, ◌≤◌, ◌<◌}
use native.Mathlib.Nat.{not-suc-le-zero, le_of_suc-le-suc}
use native.Mathlib.Numerals.{add-one}
use native.Mathlib.Omega.{arith}
use lib.Bits.{bit_xor}
use lib.ListN.{length, get_or, take, drop, length-map, get_or-eq_default, drop_of_length-le}
use lib.Seq.{drop-cons}
use Rattle.atr_characters.specs.Data.{data_byte, data_of, joined_from}

-- a function at each element of a part
map_take : (f : ℕ → ℕ) (n : ℕ) (s : List ℕ) → map f (take n s) ≡ take n (map f s)
map_take f zero s = refl
map_take f (suc n) [] = refl
map_take f (suc n) (b ∷ s) = ap (λ (t : List ℕ). f b ∷ t) (map_take f n s)

map_drop : (f : ℕ → ℕ) (n : ℕ) (s : List ℕ) → map f (drop n s) ≡ drop n (map f s)
map_drop f zero s = refl
map_drop f (suc n) [] = refl
map_drop f (suc n) (b ∷ s) = map_drop f n s

map_at : (f : ℕ → ℕ) (s : List ℕ) (i : ℕ) → i < length s → get_or (map f s) i 0 ≡ f (get_or s i 0)
map_at f [] i h = absurd (not-suc-le-zero h)
map_at f (b ∷ s) zero h = refl
map_at f (b ∷ s) (suc i) h = map_at f s i (le_of_suc-le-suc h)

module _ (inverse : Bool) (s : List ℕ) where
  pub data_length : length (data_of inverse s) ≡ length s
  unfolding data_of
  data_length = length-map s (data_byte inverse)

  pub data_at : (i : ℕ) → i < length s → get_or (data_of inverse s) i 0 ≡ data_byte inverse (get_or s i 0)
  unfolding data_of
  data_at i h = map_at (data_byte inverse) s i h

  pub data_past : (i : ℕ) → length s ≤ i → get_or (data_of inverse s) i 0 ≡ 0
  data_past i h = get_or-eq_default (data_of inverse s) 0 (let e = data_length in omega arith)

  pub data_part : (n from : ℕ) → data_of inverse (take n (drop from s)) ≡ take n (drop from (data_of inverse s))
  unfolding data_of
  data_part n from = map_take _ n (drop from s) ∙ ap (take n) (map_drop _ from s)

  -- all bytes joined
  pub joined_end : (x i : ℕ) → length s ≤ i → joined_from x (data_of inverse (drop i s)) ≡ x
  unfolding joined_from data_of
  joined_end x i h = ap (λ (t : List ℕ). joined_from x (map (data_byte inverse) t)) (drop_of_length-le s h)

  -- one more byte joined
  pub joined_on : (x i : ℕ) → i < length s
      → joined_from x (data_of inverse (drop i s))
      ≡ joined_from (bit_xor x (data_byte inverse (get_or s i 0))) (data_of inverse (drop (i + 1) s))
  unfolding joined_from data_of
  joined_on x i h = rw (add-one, drop-cons s i 0 h)
