-- Rows of bytes that were put together, and rows of a row's list.
-- Assumes nothing.
use mathlib.Core.Path.{◌≡◌, refl, sym, ap, ap₂, ◌∙◌}
use mathlib.Core.List.{List, ◌∷◌, ◌++◌}
use Prim.Native.Nat.{ℕ, zero, suc, ◌+◌, ◌*◌, ◌≤◌}
use native.Mathlib.Omega.{arith}
use lib.ListN.{length, take, drop, length-drop}
use lib.Seq.{take-append-le, drop-append-le, take_at, drop_at, length-take-le}
use Rattle.start_list.specs.Rows.{row_size, rows_in}
use Rattle.start_list.proofs.InRows.{rows_length, rows_add}

-- rows are read from the front
pub rows_front : (n : ℕ) (x y : List ℕ) → row_size * n ≤ length x → rows_in n (x ++ y) ≡ rows_in n x
unfolding rows_in
rows_front zero x y h = refl
rows_front (suc n) x y h =
    let less : row_size ≤ length x = omega arith in
    let z = length-drop row_size x in
    ap₂ ◌∷◌ (take-append-le row_size x y less)
    (ap (rows_in n) (drop-append-le row_size x y less) ∙ rows_front n (drop row_size x) y (omega arith))

-- and no further than they reach
pub rows_cut : (n : ℕ) (s : List ℕ) → row_size * n ≤ length s → rows_in n (take (row_size * n) s) ≡ rows_in n s
rows_cut n s h =
    let z = length-take-le (row_size * n) s h in
    sym (rows_front n (take (row_size * n) s) (drop (row_size * n) s) (omega arith))
    ∙ ap (rows_in n) (lib.ListN.take-append-drop (row_size * n) s)

pub rows_join : (a b : ℕ) (x y : List ℕ) → length x ≡ row_size * a → rows_in (a + b) (x ++ y) ≡ rows_in a x ++ rows_in b y
rows_join a b x y e =
    rows_add a b (x ++ y)
    ∙ ap₂ (λ (u v : List (List ℕ)). u ++ v) (rows_front a x y (omega arith)) (ap (rows_in b) (drop_at x y (row_size * a) e))

-- one row before others
pub rows_one : (k : ℕ) (r y : List ℕ) → length r ≡ row_size → rows_in (suc k) (r ++ y) ≡ r ∷ rows_in k y
unfolding rows_in
rows_one k r y e = ap₂ ◌∷◌ (take_at r y row_size e) (ap (rows_in k) (drop_at r y row_size e))

-- the first rows of many, and those behind them
module _ (p k : ℕ) (s : List ℕ) where
  split : rows_in (p + k) s ≡ rows_in p s ++ rows_in k (drop (row_size * p) s)
  split = rows_add p k s

  pub rows_take : take p (rows_in (p + k) s) ≡ rows_in p s
  rows_take = ap (take p) split ∙ take_at (rows_in p s) _ p (rows_length p s)

  pub rows_drop : drop p (rows_in (p + k) s) ≡ rows_in k (drop (row_size * p) s)
  rows_drop = ap (drop p) split ∙ drop_at (rows_in p s) _ p (rows_length p s)
