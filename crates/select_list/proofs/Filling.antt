-- The list after one joined and after one fell out, from the bytes that were moved and written.
-- Assumes nothing.
use mathlib.Core.Path.{◌≡◌, refl, sym, ap, ap₂, ◌∙◌}
use mathlib.Core.List.{List, [], ◌∷◌, ◌++◌, map}
use Prim.Native.Nat.{ℕ, zero, suc, ◌+◌, ◌*◌, ◌-◌, ◌≤◌, ◌<◌}
use native.Mathlib.Omega.{arith}
use lib.Dec.{leb}
use lib.ListN.{length, get_or, take, drop, length-drop}
use lib.Seq.{drop-drop, length-take-le, take_all, take_at, take-append-add}
use Rattle.slices.specs.Writing.{put, laid}
use Rattle.slices.proofs.Choice.{picked}
use Rattle.slices.proofs.Writing.{put_length, laid_fits}
use Rattle.start_list.specs.Rows.{row_size, rows_in}
use Rattle.start_list.proofs.InRows.{rows_length}
use Rattle.select_list.specs.Order.{Candidate, placed}
use Rattle.select_list.specs.Kept.{most_kept, list_size, count_of, kept_in}
use Rattle.select_list.specs.Steps.{place_for, counted}
use Rattle.select_list.proofs.InRows.{rows_take, rows_drop}
use Rattle.select_list.proofs.Placing.{placed_at, place_most}
use Rattle.select_list.proofs.Keeping.{kept_right}
use Rattle.select_list.proofs.Counting.{counted_kept}
use Rattle.select_list.proofs.Rowing.{behind_count, row_put, row_taken}

count_most : (d : List ℕ) → count_of d ≤ most_kept
unfolding count_of
count_most d =
    picked (λ (n : ℕ). n ≤ most_kept) (leb (256 * get_or d 0 0 + get_or d 1 0) most_kept) (256 * get_or d 0 0 + get_or d 1 0) most_kept
    (λ y. borrow.Author.Tests.leb-true _ _ y)
    (λ n. omega arith)

module _ (d : List ℕ) (right : length d ≡ list_size) where
  rows : length (kept_in d) ≡ count_of d
  rows = ap length (kept_right d right) ∙ rows_length (count_of d) (drop 2 d)

  -- the first rows, and some behind them
  first_rows : (p : ℕ) → p ≤ length (kept_in d) → rows_in p (drop 2 d) ≡ take p (kept_in d)
  first_rows p h =
      let many = rows in
      let e : p + (count_of d - p) ≡ count_of d = omega arith in
      sym (ap (take p) (kept_right d right ∙ ap (λ (n : ℕ). rows_in n (drop 2 d)) (sym e)) ∙ rows_take p (count_of d - p) (drop 2 d))

  later_rows : (p k : ℕ) → p + k ≤ length (kept_in d) → rows_in k (drop (row_size * p) (drop 2 d)) ≡ take k (drop p (kept_in d))
  later_rows p k h =
      let many = rows in
      let j = count_of d - (p + k) in
      let e : p + (k + j) ≡ count_of d = omega arith in
      sym (ap (λ l. take k (drop p l)) (kept_right d right ∙ ap (λ (n : ℕ). rows_in n (drop 2 d)) (sym e))
      ∙ (ap (take k) (rows_drop p (k + j) (drop 2 d)) ∙ rows_take k j (drop (row_size * p) (drop 2 d))))

  module _ (p m : ℕ) (low : p ≤ m) (room : m < most_kept) (there : m ≤ length (kept_in d)) (r : List ℕ) (size : length r ≡ row_size) where
    abbrev up : List ℕ
    up = put (take (row_size * (m - p)) (drop (2 + row_size * p) d)) (2 + row_size * p + row_size) d

    up_length : length up ≡ length d
    up_length =
        let z = length-drop (2 + row_size * p) d in
        let s = length-take-le (row_size * (m - p)) (drop (2 + row_size * p) d) (omega arith) in
        put_length (take (row_size * (m - p)) (drop (2 + row_size * p) d)) (2 + row_size * p + row_size) d (omega arith)

    up_rows : drop 2 up ≡ put (take (row_size * (m - p)) (drop (row_size * p) (drop 2 d))) (row_size * p + row_size) (drop 2 d)
    up_rows =
        let e : 2 + row_size * p + row_size ≡ 2 + (row_size * p + row_size) = omega arith in
        ap (λ (n : ℕ). drop 2 (put (take (row_size * (m - p)) (drop (2 + row_size * p) d)) n d)) e
        ∙ (behind_count (take (row_size * (m - p)) (drop (2 + row_size * p) d)) (row_size * p + row_size) d (omega arith)
        ∙ ap (λ l. put (take (row_size * (m - p)) l) (row_size * p + row_size) (drop 2 d)) (sym (drop-drop (row_size * p) 2 d)))

    pub row_in : kept_in (laid (counted (m + 1)) 0 (laid r (2 + row_size * p) up))
        ≡ take p (kept_in d) ++ (r ∷ take (m - p) (drop p (kept_in d)))
    row_in =
        let long = up_length in
        let k = m - p in
        let z = length-drop 2 d in
        let e : m + 1 ≡ p + suc k = omega arith in
        ap (λ x. kept_in (laid (counted (m + 1)) 0 x)) (laid_fits r (2 + row_size * p) up (omega arith))
        ∙ (counted_kept (m + 1) (put r (2 + row_size * p) up) (omega arith)
        (put_length r (2 + row_size * p) up (omega arith) ∙ (long ∙ right))
        ∙ (ap₂ (λ (n : ℕ) (l : List ℕ). rows_in n l) e
        (behind_count r (row_size * p) up (omega arith) ∙ ap (put r (row_size * p)) up_rows)
        ∙ (row_put p k (drop 2 d) (omega arith) r size
        ∙ ap₂ (λ (u v : List (List ℕ)). u ++ (r ∷ v)) (first_rows p (omega arith)) (later_rows p k (omega arith)))))

  pub row_out : (i n : ℕ) → n ≡ length (kept_in d) → i < n
      → kept_in (laid (counted (n - 1)) 0
      (put (take (row_size * (n - 1 - i)) (drop (2 + row_size * i + row_size) d)) (2 + row_size * i) d))
      ≡ take i (kept_in d) ++ drop (suc i) (kept_in d)
  row_out i n e h =
      let k = n - 1 - i in
      let most = count_most d in
      let many = rows in
      let z = length-drop 2 d in
      let w = length-drop (2 + row_size * i + row_size) d in
      let x = take (row_size * k) (drop (2 + row_size * i + row_size) d) in
      let s = length-take-le (row_size * k) (drop (2 + row_size * i + row_size) d) (omega arith) in
      let le : n - 1 ≡ i + k = omega arith in
      let u = length-drop (suc i) (kept_in d) in
      let places : 2 + row_size * i + row_size ≡ 2 + (row_size * i + row_size) = omega arith in
      let same : row_size * i + row_size ≡ row_size * suc i = omega arith in
      counted_kept (n - 1) (put x (2 + row_size * i) d) (omega arith) (put_length x (2 + row_size * i) d (omega arith) ∙ right)
      ∙ (ap₂ (λ (m : ℕ) (l : List ℕ). rows_in m l) le
      (behind_count x (row_size * i) d (omega arith)
      ∙ ap (λ l. put (take (row_size * k) l) (row_size * i) (drop 2 d))
      (ap (λ (q : ℕ). drop q d) places ∙ sym (drop-drop (row_size * i + row_size) 2 d)))
      ∙ (row_taken i k (drop 2 d) (omega arith)
      ∙ ap₂ (λ (a b : List (List ℕ)). a ++ b) (first_rows i (omega arith))
      (ap (λ (q : ℕ). rows_in k (drop q (drop 2 d))) same
      ∙ (later_rows (suc i) k (omega arith) ∙ take_all k (drop (suc i) (kept_in d)) (omega arith)))))

-- one that joins a list of 355 or fewer, cut to 355
module _ (c : Candidate) (l : List Candidate) where
  abbrev place : ℕ
  place = place_for c.standing l

  cut_at : (w : ℕ) → place + suc w ≡ most_kept → take most_kept (placed c l) ≡ take place l ++ (c ∷ take w (drop place l))
  cut_at w e =
      let size = length-take-le place l (place_most c.standing l) in
      let sum : most_kept ≡ length (take place l) + suc w = omega arith in
      ap₂ (λ (n : ℕ) (x : List Candidate). take n x) sum (placed_at c l) ∙ take-append-add (take place l) (c ∷ drop place l) (suc w)

  pub joins : length l < most_kept → take most_kept (placed c l) ≡ take place l ++ (c ∷ take (length l - place) (drop place l))
  joins h =
      let most = place_most c.standing l in
      let z = length-drop place l in
      cut_at (354 - place) (omega arith)
      ∙ ap (λ x. take place l ++ (c ∷ x))
      (take_all (354 - place) (drop place l) (omega arith) ∙ sym (take_all (length l - place) (drop place l) (omega arith)))

  pub pushes : place < most_kept → take most_kept (placed c l) ≡ take place l ++ (c ∷ take (354 - place) (drop place l))
  pushes h = cut_at (354 - place) (omega arith)

  pub stays_out : length l ≡ most_kept → most_kept ≤ place → take most_kept (placed c l) ≡ l
  stays_out e h =
      let most = place_most c.standing l in
      let size = length-take-le place l most in
      ap (take most_kept) (placed_at c l)
      ∙ (take_at (take place l) (c ∷ drop place l) most_kept (omega arith) ∙ take_all place l (omega arith))

-- rows taken and read, and read and taken
pub map_take : {A B : Type 0} (f : A → B) (n : ℕ) (l : List A) → map f (take n l) ≡ take n (map f l)
map_take f zero l = refl
map_take f (suc n) [] = refl
map_take f (suc n) (x ∷ l) = ap (λ r. f x ∷ r) (map_take f n l)

pub map_drop : {A B : Type 0} (f : A → B) (n : ℕ) (l : List A) → map f (drop n l) ≡ drop n (map f l)
map_drop f zero l = refl
map_drop f (suc n) [] = refl
map_drop f (suc n) (x ∷ l) = map_drop f n l
