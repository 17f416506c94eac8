-- A row put between rows, and a row taken out: what the bytes read as.
-- Assumes nothing.
use mathlib.Core.Path.{◌≡◌, sym, ap, ap₂, ◌∙◌}
use mathlib.Core.List.{List, ◌∷◌, ◌++◌}
use Prim.Native.Nat.{ℕ, suc, ◌+◌, ◌*◌, ◌≤◌}
use native.Mathlib.Omega.{arith}
use lib.ListN.{length, take, drop, length-drop}
use lib.Seq.{drop-append-le, drop_at, drop-drop, take-add, take-take, length-take-le}
use Rattle.slices.specs.Writing.{put}
use Rattle.slices.proofs.Writing.{put_take}
use Rattle.start_list.specs.Rows.{row_size, rows_in}
use Rattle.select_list.proofs.Bytes.{put_drop}
use Rattle.select_list.proofs.InRows.{rows_front, rows_cut, rows_join, rows_one}

-- behind the count a write is a write
pub behind_count : (x : List ℕ) (q : ℕ) (d : List ℕ) → 2 + q ≤ length d → drop 2 (put x (2 + q) d) ≡ put x q (drop 2 d)
unfolding put
behind_count x q d h =
    let two = length-take-le 2 d (omega arith) in
    let front : drop 2 (take (2 + q) d) ≡ take q (drop 2 d) =
    ap (drop 2) (take-add 2 q d) ∙ drop_at (take 2 d) (take q (drop 2 d)) 2 two in
    let size = length-take-le (2 + q) d h in
    drop-append-le 2 (take (2 + q) d) (x ++ drop (length x) (drop (2 + q) d)) (omega arith)
    ∙ ap₂ (λ (u v : List ℕ). u ++ (x ++ drop (length x) v)) front (sym (drop-drop q 2 d))

module _ (p k : ℕ) (f : List ℕ) (h : row_size * (p + suc k) ≤ length f) where
  abbrev behind : List ℕ
  behind = take (row_size * k) (drop (row_size * p) f)

  behind_length : length behind ≡ row_size * k
  behind_length = let z = length-drop (row_size * p) f in length-take-le (row_size * k) (drop (row_size * p) f) (omega arith)

  -- k rows moved up by one, and a row put where they stood
  pub row_put : (r : List ℕ) → length r ≡ row_size
      → rows_in (p + suc k) (put r (row_size * p) (put behind (row_size * p + row_size) f))
      ≡ rows_in p f ++ (r ∷ rows_in k (drop (row_size * p) f))
  unfolding put
  row_put r e =
      let g = put behind (row_size * p + row_size) f in
      let z = length-drop (row_size * p) f in
      let size = behind_length in
      let first : take (row_size * p) g ≡ take (row_size * p) f =
      sym (take-take (row_size * p) (row_size * p + row_size) g (omega arith))
      ∙ (ap (take (row_size * p)) (put_take behind (row_size * p + row_size) f (omega arith))
      ∙ take-take (row_size * p) (row_size * p + row_size) f (omega arith)) in
      let last : drop (length r) (drop (row_size * p) g) ≡ behind ++ drop (length behind) (drop (row_size * p + row_size) f) =
      drop-drop (length r) (row_size * p) g
      ∙ (ap (λ (n : ℕ). drop (row_size * p + n) g) e ∙ put_drop behind (row_size * p + row_size) f (omega arith)) in
      ap₂ (λ (u v : List ℕ). rows_in (p + suc k) (u ++ (r ++ v))) first last
      ∙ (rows_join p (suc k) (take (row_size * p) f) (r ++ (behind ++ drop (length behind) (drop (row_size * p + row_size) f)))
      (length-take-le (row_size * p) f (omega arith))
      ∙ ap₂ (λ (u v : List (List ℕ)). u ++ v) (rows_cut p f (omega arith))
      (rows_one k r _ e
      ∙ ap (λ l. r ∷ l)
      (rows_front k behind (drop (length behind) (drop (row_size * p + row_size) f)) (omega arith)
      ∙ rows_cut k (drop (row_size * p) f) (omega arith))))

  abbrev after : List ℕ
  after = take (row_size * k) (drop (row_size * p + row_size) f)

  -- k rows moved down by one, over a row
  pub row_taken : rows_in (p + k) (put after (row_size * p) f) ≡ rows_in p f ++ rows_in k (drop (row_size * p + row_size) f)
  unfolding put
  row_taken =
      let z = length-drop (row_size * p + row_size) f in
      let size : length after ≡ row_size * k = length-take-le (row_size * k) (drop (row_size * p + row_size) f) (omega arith) in
      rows_join p k (take (row_size * p) f) (after ++ drop (length after) (drop (row_size * p) f))
      (length-take-le (row_size * p) f (omega arith))
      ∙ ap₂ (λ (u v : List (List ℕ)). u ++ v) (rows_cut p f (omega arith))
      (rows_front k after (drop (length after) (drop (row_size * p) f)) (omega arith)
      ∙ rows_cut k (drop (row_size * p + row_size) f) (omega arith))
