-- Three parts laid one behind the other into a buffer that has room for just these: it holds them in a row.
-- Assumes nothing.
use mathlib.Core.Path.{◌≡◌, sym, ap, ◌∙◌}
use mathlib.Core.List.{List, ◌++◌, append-nil}
use Prim.Native.Nat.{ℕ, ◌+◌}
use native.Mathlib.Omega.{arith}
use lib.ListN.{length, length-append, drop_of_length-le}
use Rattle.slices.specs.Writing.{put, laid}
use Rattle.slices.proofs.Writing.{put_length, put_start, put_step, laid_fits}

-- bytes that fill a buffer
filled : (s d : List ℕ) → length s ≡ length d → put s 0 d ≡ s
filled s d e = put_start s d ∙ (ap (λ (x : List ℕ). s ++ x) (drop_of_length-le d {i = length s} (omega arith)) ∙ append-nil s)

module _ (a b c d : List ℕ) (n m : ℕ) (one : length a ≡ n) (two : n + length b ≡ m) (all : m + length c ≡ length d) where
  in_places : laid c m (laid b n (laid a 0 d)) ≡ put c m (put b n (put a 0 d))
  in_places =
      let room : length (put a 0 d) ≡ length d = put_length a 0 d (omega arith) in
      let more : length (put b n (put a 0 d)) ≡ length (put a 0 d) = put_length b n (put a 0 d) (omega arith) in
      ap (λ (x : List ℕ). laid c m (laid b n x)) (laid_fits a 0 d (omega arith))
      ∙ (ap (laid c m) (laid_fits b n (put a 0 d) (omega arith)) ∙ laid_fits c m (put b n (put a 0 d)) (omega arith))

  in_a_row : put (a ++ (b ++ c)) 0 d ≡ put c m (put b n (put a 0 d))
  in_a_row =
      let room : length (put a 0 d) ≡ length d = put_length a 0 d (omega arith) in
      let begun : 0 + length a ≡ n = omega arith in
      put_step a (b ++ c) 0 d (omega arith)
      ∙ (ap (λ (k : ℕ). put (b ++ c) k (put a 0 d)) begun
      ∙ (put_step b c n (put a 0 d) (omega arith) ∙ ap (λ (k : ℕ). put c k (put b n (put a 0 d))) two))

  pub three_laid : laid c m (laid b n (laid a 0 d)) ≡ a ++ (b ++ c)
  three_laid =
      let sizes = length-append a (b ++ c) in
      let behind = length-append b c in
      in_places ∙ (sym in_a_row ∙ filled (a ++ (b ++ c)) d (omega arith))
