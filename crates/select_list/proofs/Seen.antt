-- Tests of a list that see no further than its first two: cut, the list gives the same. And a list that is read from bytes has no more than
-- there is room for.
-- Assumes nothing.
use mathlib.Core.Path.{◌≡◌, sym, ap, ◌∙◌}
use mathlib.Core.List.{List, [], ◌∷◌}
use Prim.Native.Nat.{ℕ, zero, suc, ◌+◌, ◌*◌, ◌≤◌, ◌<◌}
use native.Mathlib.Omega.{arith}
use lib.Dec.{eqb, ltb, leb}
use lib.ListN.{length, get_or, take, drop, length-take}
use lib.Seq.{get_or-take, take_all}
use borrow.Author.Tests.{ltb-true, ltb-false, lt-ltb, le-ltb, eq-eqb, ne_eqb, eqb-true, eqb-false, leb-true}
use Rattle.slices.proofs.Choice.{picked, either}
use Rattle.start_list.proofs.InRows.{rows_length}
use Rattle.select_list.specs.Order.{Candidate, without}
use Rattle.select_list.specs.Kept.{most_kept, list_size, count_of, kept_in, list_in, candidate_at}
use Rattle.select_list.proofs.Keeping.{kept_right, kept_wrong, as_many}

module _ (m : ℕ) (l : List Candidate) where
  pub first_seen : 0 < m → candidate_at (take m l) 0 ≡ candidate_at l 0
  unfolding candidate_at
  first_seen h = get_or-take m l 0 _ h

  pub none_seen : 0 < m → eqb (length l) 0 ≡ eqb (length (take m l)) 0
  none_seen h =
      let z = length-take m l in
      either (eqb (length l) 0)
      (λ y. let e = eqb-true (length l) 0 y in y ∙ sym (eq-eqb (length (take m l)) 0 (omega arith)))
      (λ n. let e = eqb-false (length l) 0 n in n ∙ sym (ne_eqb (length (take m l)) 0 (λ k. e (omega arith))))

  pub two_seen : 1 < m → ltb 1 (length l) ≡ ltb 1 (length (take m l))
  two_seen h =
      let z = length-take m l in
      either (ltb 1 (length l))
      (λ y. let e = ltb-true 1 (length l) y in y ∙ sym (lt-ltb 1 (length (take m l)) (omega arith)))
      (λ n. let e = ltb-false 1 (length l) n in n ∙ sym (le-ltb 1 (length (take m l)) (omega arith)))

module _ (d : List ℕ) where
  count_most : count_of d ≤ most_kept
  unfolding count_of
  count_most =
      picked (λ (n : ℕ). n ≤ most_kept) (leb (256 * get_or d 0 0 + get_or d 1 0) most_kept) (256 * get_or d 0 0 + get_or d 1 0) most_kept
      (λ y. leb-true _ _ y)
      (λ n. omega arith)

  kept_most : length (kept_in d) ≤ most_kept
  kept_most =
      either (eqb (length d) list_size)
      (λ y.
      let rows = ap length (kept_right d (eqb-true _ _ y)) ∙ rows_length (count_of d) (drop 2 d) in
      let most = count_most in
      omega arith)
      (λ n. let none' = ap length (kept_wrong d (eqb-false _ _ n)) in omega arith)

  pub list_most_lem : length (list_in d) ≤ most_kept
  list_most_lem = let most = kept_most in let same = as_many d in omega arith

  pub list_whole : take most_kept (list_in d) ≡ list_in d
  list_whole = take_all most_kept (list_in d) list_most_lem

without_fewer : (i : ℕ) (l : List Candidate) → length (without i l) ≤ length l
unfolding without
without_fewer i [] = omega arith
without_fewer zero (d ∷ l) = omega arith
without_fewer (suc i) (d ∷ l) = let h = without_fewer i l in omega arith

-- where one falls out, there is room for the others
pub left_whole : (d : List ℕ) (i : ℕ) → take most_kept (without i (list_in d)) ≡ without i (list_in d)
left_whole d i =
    let most = list_most_lem d in
    let fewer = without_fewer i (list_in d) in
    take_all most_kept (without i (list_in d)) (omega arith)
