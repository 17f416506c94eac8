-- Writing into a buffer: what was written stands there, the rest does not move, and one write after another, each where
-- the last ended, is one write of both.
-- Assumes nothing.
use mathlib.Core.Path.{◌≡◌, refl, ap, sym, ◌∙◌}
use mathlib.Core.List.{List, [], ◌++◌, append_assoc}
use Prim.Native.Nat.{ℕ, ◌+◌, ◌≤◌, ◌<◌, ◌-◌}
use native.Mathlib.Omega.{arith}
use lib.ListN.{length, take, drop, length-append, length-take, length-drop, length-replicate, take-append-drop}
use lib.Seq.{length-take-le, take-length, take-append_seam, take_at, drop_at, drop-drop, paste}
use borrow.Author.Tests.{le-leb, lt-leb}
use Rattle.slices.specs.Writing.{put, laid, zeros}
use Rattle.slices.proofs.Choice.{pick_yes, pick_no}

pub put_length : (s : List ℕ) (p : ℕ) (d : List ℕ) → p + length s ≤ length d → length (put s p d) ≡ length d
unfolding put
put_length s p d h = simp (length-append, length-take, length-drop) (omega arith)

-- what is written at the start of a buffer
pub put_start : (s d : List ℕ) → put s 0 d ≡ s ++ drop (length s) d
unfolding put
put_start s d = refl

-- nothing written is nothing changed
pub put_nothing : (p : ℕ) (d : List ℕ) → put [] p d ≡ d
unfolding put
put_nothing p d = take-append-drop p d

pub put_take : (s : List ℕ) (p : ℕ) (d : List ℕ) → p ≤ length d → take p (put s p d) ≡ take p d
unfolding put
put_take s p d h = take_at (take p d) _ p (length-take-le p d h)

-- the bytes written are what stands there
pub put_there : (s : List ℕ) (p : ℕ) (d : List ℕ) → p ≤ length d → take (length s) (drop p (put s p d)) ≡ s
unfolding put
put_there s p d h = ap (take (length s)) (drop_at (take p d) _ p (length-take-le p d h)) ∙ take-append_seam s _

-- a write after the seam of two lists
seam : (a x y r : List ℕ) (n : ℕ) → length (a ++ x) ≡ n
    → take n (a ++ (x ++ r)) ++ (y ++ drop (length y) (drop n (a ++ (x ++ r)))) ≡ a ++ ((x ++ y) ++ drop (length y) r)
seam a x y r n e =
    ap (λ (l : List ℕ). take n l ++ (y ++ drop (length y) (drop n l))) (sym (append_assoc a x r))
    ∙ (rw (take_at (a ++ x) r n e, drop_at (a ++ x) r n e) (simp append_assoc))

-- two writes in a row are one
pub put_step : (x y : List ℕ) (p : ℕ) (d : List ℕ) → p + length x ≤ length d → put (x ++ y) p d ≡ put y (p + length x) (put x p d)
unfolding put
put_step x y p d h =
    ap (λ (n : ℕ). take p d ++ ((x ++ y) ++ drop n (drop p d))) (length-append x y)
    ∙ (ap (λ (r : List ℕ). take p d ++ ((x ++ y) ++ r)) (sym (drop-drop (length y) (length x) (drop p d)))
    ∙ sym (seam (take p d) x y (drop (length x) (drop p d)) (p + length x) (simp (length-append, length-take) (omega arith))))

-- a copy that has come to its end
pub put_pasted : (s : List ℕ) (p : ℕ) (d : List ℕ) → put s p d ≡ paste d p s (length s)
unfolding put
put_pasted s p d = rw (take-length, drop-drop) (simp append_assoc)

pub laid_fits : (s : List ℕ) (p : ℕ) (d : List ℕ) → p + length s ≤ length d → laid s p d ≡ put s p d
unfolding laid
laid_fits s p d h = pick_yes _ _ _ (le-leb _ _ h)

pub laid_short : (s : List ℕ) (p : ℕ) (d : List ℕ) → length d < p + length s → laid s p d ≡ d
unfolding laid
laid_short s p d h = pick_no _ _ _ (lt-leb _ _ h)

pub zeros_length : (n : ℕ) → length (zeros n) ≡ n
unfolding zeros
zeros_length n = length-replicate n 0

-- a part of a buffer that was lent and has come back holding as many bytes is a write
pub put_back : (s : List ℕ) (p e : ℕ) (d : List ℕ) → length s ≡ e - p → take p d ++ (s ++ drop (e - p) (drop p d)) ≡ put s p d
unfolding put
put_back s p e d h = ap (λ (n : ℕ). take p d ++ (s ++ drop n (drop p d))) (sym h)
