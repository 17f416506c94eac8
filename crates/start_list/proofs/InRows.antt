-- Rows: how many there are, the one at a place, rows behind rows; and which bytes they are read from.
-- Assumes nothing.
use mathlib.Core.Path.{◌≡◌, refl, ap, ◌∙◌}
use mathlib.Core.List.{List, [], ◌∷◌, ◌++◌}
use Prim.Native.Nat.{ℕ, zero, suc, ◌+◌, ◌*◌, ◌<◌}
use native.Mathlib.Omega.{arith}
use lib.ListN.{length, take, drop, get_or}
use lib.Seq.{drop-drop}
use Rattle.start_list.specs.Rows.{row_size, rows_in}

pub rows_length : (n : ℕ) (s : List ℕ) → length (rows_in n s) ≡ n
unfolding rows_in
rows_length zero s = refl
rows_length (suc n) s = ap suc (rows_length n (drop row_size s))

-- a row further on is one less far on behind the first
further : (k : ℕ) (s : List ℕ) → drop (row_size * k) (drop row_size s) ≡ drop (row_size * suc k) s
further k s =
    let e : row_size + row_size * k ≡ row_size * suc k = omega arith in
    drop-drop (row_size * k) row_size s ∙ ap (λ (n : ℕ). drop n s) e

pub row_at : (n k : ℕ) (s : List ℕ) → k < n → get_or (rows_in n s) k [] ≡ take row_size (drop (row_size * k) s)
unfolding rows_in
row_at zero k s h = absurd (omega arith)
row_at (suc n) zero s h = refl
row_at (suc n) (suc k) s h = row_at n k (drop row_size s) (omega arith) ∙ ap (take row_size) (further k s)

pub rows_add : (a b : ℕ) (s : List ℕ) → rows_in (a + b) s ≡ rows_in a s ++ rows_in b (drop (row_size * a) s)
unfolding rows_in
rows_add zero b s = ap (λ (n : ℕ). rows_in n s) (let e : 0 + b ≡ b = omega arith in e)
rows_add (suc a) b s =
    ap (λ (n : ℕ). rows_in n s) (let e : suc a + b ≡ suc (a + b) = omega arith in e)
    ∙ ap (λ l. take row_size s ∷ l) (rows_add a b (drop row_size s) ∙ ap (λ t. rows_in a (drop row_size s) ++ rows_in b t) (further a s))
