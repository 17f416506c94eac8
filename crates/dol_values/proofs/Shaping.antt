-- A blank room with a value laid into it is the value shaped: what the value does not cover keeps the filler.
-- Assumes nothing.
use mathlib.Core.Path.{◌≡◌, sym, ap, ap₂, ◌∙◌}
use mathlib.Core.List.{List, [], ◌++◌, append-nil}
use Prim.Native.Nat.{ℕ, ◌+◌, ◌-◌, ◌≤◌, ◌<◌}
use native.Mathlib.Nat.{le_refl}
use native.Mathlib.Omega.{arith}
use lib.ListN.{length, take, drop, replicate, length-replicate, length-take, length-drop, replicate-append-replicate}
use lib.Seq.{take_at, drop_at, take_all}
use Rattle.slices.specs.Writing.{put, laid, zeros}
use Rattle.slices.proofs.Writing.{laid_fits, put_start}
use Rattle.dol_values.specs.Shape.{shaped}
use Rattle.answer_common.specs.declared.content.Format.TheVariants.{Numeric}

module _ (n k a : ℕ) (h : k ≤ n) where
  parted : replicate n a ≡ replicate k a ++ replicate (n - k) a
  parted =
      let whole : k + (n - k) ≡ n = omega arith in
      ap (λ (m : ℕ). replicate m a) (sym whole) ∙ sym (replicate-append-replicate k (n - k) a)

  take_same : take k (replicate n a) ≡ replicate k a
  take_same = ap (take k) parted ∙ take_at (replicate k a) (replicate (n - k) a) k (length-replicate k a)

  drop_same : drop k (replicate n a) ≡ replicate (n - k) a
  drop_same = ap (drop k) parted ∙ drop_at (replicate k a) (replicate (n - k) a) k (length-replicate k a)

-- a value laid at the start of a blank room
pub laid_left : (n a : ℕ) (v : List ℕ) → length v ≤ n → laid v 0 (replicate n a) ≡ v ++ replicate (n - length v) a
laid_left n a v h =
    let room = length-replicate n a in
    let fits : 0 + length v ≤ length (replicate n a) = omega arith in
    laid_fits v 0 (replicate n a) fits ∙ (put_start v (replicate n a) ∙ ap (λ (r : List ℕ). v ++ r) (drop_same n (length v) a h))

-- and at its end
pub laid_right : (n a : ℕ) (v : List ℕ) → length v ≤ n → laid v (n - length v) (replicate n a) ≡ replicate (n - length v) a ++ v
unfolding put
laid_right n a v h =
    let room = length-replicate n a in
    let p = n - length v in
    let fits : p + length v ≤ length (replicate n a) = omega arith in
    let left : n - p ≡ length v = omega arith in
    let none_left : length v - length v ≡ 0 = omega arith in
    let rest : drop (length v) (drop p (replicate n a)) ≡ []
    = ap (drop (length v)) (drop_same n p a (omega arith) ∙ ap (λ (m : ℕ). replicate m a) left)
    ∙ (drop_same (length v) (length v) a (le_refl _) ∙ ap (λ (m : ℕ). replicate m a) none_left) in
    laid_fits v p (replicate n a) fits
    ∙ ap₂ (λ (x y : List ℕ). x ++ y) (take_same n p a (omega arith)) (ap (λ (r : List ℕ). v ++ r) rest ∙ append-nil v)

module _ (n : ℕ) (v : List ℕ) where
  pub numeric_cut : n < length v → laid (drop (length v - n) v) 0 (replicate n 0) ≡ shaped Numeric n v
  unfolding shaped zeros
  numeric_cut h =
      let cut = drop (length v - n) v in
      let size : length cut ≡ n = length-drop (length v - n) v ∙ (let m : length v - (length v - n) ≡ n = omega arith in m) in
      let none_left : n - length cut ≡ 0 = omega arith in
      let no_zeros : n - length v ≡ 0 = omega arith in
      laid_left n 0 cut (omega arith)
      ∙ (ap (λ (m : ℕ). cut ++ replicate m 0) none_left ∙ (append-nil cut ∙ sym (ap (λ (m : ℕ). replicate m 0 ++ cut) no_zeros)))

  pub numeric_filled : length v ≤ n → laid v (n - length v) (replicate n 0) ≡ shaped Numeric n v
  unfolding shaped zeros
  numeric_filled h =
      let all : length v - n ≡ 0 = omega arith in
      laid_right n 0 v h ∙ sym (ap (λ (m : ℕ). replicate (n - length v) 0 ++ drop m v) all)

  pub left_cut : (a : ℕ) → n < length v → laid (take n v) 0 (replicate n a) ≡ take n v ++ replicate (n - length v) a
  left_cut a h =
      let size : length (take n v) ≡ n = rw length-take (omega arith) in
      let same : n - length (take n v) ≡ n - length v = omega arith in
      laid_left n a (take n v) (omega arith) ∙ ap (λ (m : ℕ). take n v ++ replicate m a) same

  pub left_filled : (a : ℕ) → length v ≤ n → laid v 0 (replicate n a) ≡ take n v ++ replicate (n - length v) a
  left_filled a h = laid_left n a v h ∙ ap (λ (w : List ℕ). w ++ replicate (n - length v) a) (sym (take_all n v h))
