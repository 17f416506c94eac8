-- Joining and falling out, in places; that a list which is cut keeps what can still matter; and that the list is in order, equals as they
-- joined.
-- Assumes nothing.
use mathlib.Core.Path.{◌≡◌, refl, sym, ap, ◌∙◌}
use mathlib.Core.List.{List, [], ◌∷◌, ◌++◌}
use Prim.Native.Nat.{ℕ, zero, suc, ◌+◌, ◌≤◌, ◌<◌}
use native.Mathlib.Omega.{arith}
use lib.Dec.{leb}
use lib.ListN.{length, take, drop, get_or, drop_of_length-le}
use native.Mathlib.Numerals.{add-one}
use lib.Seq.{take-nil, take-take, drop-cons}
use borrow.Author.Tests.{le-leb, lt-leb}
use Rattle.slices.proofs.Choice.{pick_yes, pick_no, picked, either}
use Rattle.select_list.specs.Order.{Candidate, placed, without}
use Rattle.select_list.specs.Steps.{place_for}

-- one joins behind as many as do not stand behind it
pub placed_at : (c : Candidate) (l : List Candidate)
    → placed c l ≡ take (place_for c.standing l) l ++ (c ∷ drop (place_for c.standing l) l)
unfolding placed place_for
placed_at c [] = refl
placed_at c (d ∷ l) =
    either (leb d.standing c.standing)
    (λ y.
    pick_yes _ _ _ y
    ∙ (ap (λ x. d ∷ x) (placed_at c l)
    ∙ sym (ap (λ (p : ℕ). take p (d ∷ l) ++ (c ∷ drop p (d ∷ l))) (pick_yes _ _ _ y))))
    (λ n. pick_no _ _ _ n ∙ sym (ap (λ (p : ℕ). take p (d ∷ l) ++ (c ∷ drop p (d ∷ l))) (pick_no _ _ _ n)))

pub place_most : (s : ℕ) (l : List Candidate) → place_for s l ≤ length l
unfolding place_for
place_most s [] = omega arith
place_most s (d ∷ l) =
    picked (λ (p : ℕ). p ≤ suc (length l)) (leb d.standing s) (suc (place_for s l)) 0
    (λ y. let z = place_most s l in omega arith)
    (λ n. omega arith)

-- one falls out: those before it and those behind it are left
pub without_at : (i : ℕ) (l : List Candidate) → without i l ≡ take i l ++ drop (suc i) l
unfolding without
without_at zero [] = refl
without_at (suc i) [] = refl
without_at zero (d ∷ l) = refl
without_at (suc i) (d ∷ l) = ap (λ x. d ∷ x) (without_at i l)

pub without_past : (i : ℕ) (l : List Candidate) → length l ≤ i → without i l ≡ l
unfolding without
without_past i [] h = refl
without_past zero (d ∷ l) h = absurd (omega arith)
without_past (suc i) (d ∷ l) h = ap (λ x. d ∷ x) (without_past i l (omega arith))

-- a list that is cut behind at least as many as are looked at
pub cut_placed : (m n : ℕ) (c : Candidate) (l : List Candidate) → m ≤ n → take m (placed c l) ≡ take m (placed c (take n l))
unfolding placed
cut_placed zero n c l h = refl
cut_placed (suc m) zero c l h = absurd (omega arith)
cut_placed (suc m) (suc n) c [] h = refl
cut_placed (suc m) (suc n) c (d ∷ l) h =
    either (leb d.standing c.standing)
    (λ y.
    ap (take (suc m)) (pick_yes _ _ _ y)
    ∙ (ap (λ x. d ∷ x) (cut_placed m n c l (omega arith)) ∙ sym (ap (take (suc m)) (pick_yes _ _ _ y))))
    (λ z.
    ap (take (suc m)) (pick_no _ _ _ z)
    ∙ (ap (λ x. c ∷ x) (sym (take-take m (suc n) (d ∷ l) (omega arith))) ∙ sym (ap (take (suc m)) (pick_no _ _ _ z))))

pub cut_without : (m i : ℕ) (l : List Candidate) → i ≤ m → take m (without i l) ≡ without i (take (suc m) l)
unfolding without
cut_without m zero [] h = take-nil m
cut_without m (suc i) [] h = take-nil m
cut_without m zero (d ∷ l) h = refl
cut_without zero (suc i) (d ∷ l) h = absurd (omega arith)
cut_without (suc m) (suc i) (d ∷ l) h = ap (λ x. d ∷ x) (cut_without m i l (omega arith))

-- the place, found from the front
module _ (s : ℕ) (l : List Candidate) (e : Candidate) (i : ℕ) where
  pub place_on : i < length l → (get_or l i e).standing ≤ s → place_for s (drop i l) ≡ suc (place_for s (drop (i + 1) l))
  unfolding place_for
  place_on h k =
      ap (place_for s) (drop-cons l i e h)
      ∙ (pick_yes _ _ _ (le-leb _ _ k) ∙ ap (λ (n : ℕ). suc (place_for s (drop n l))) (sym (add-one i)))

  pub place_here : i < length l → s < (get_or l i e).standing → place_for s (drop i l) ≡ 0
  unfolding place_for
  place_here h k = ap (place_for s) (drop-cons l i e h) ∙ pick_no _ _ _ (lt-leb _ _ k)

  pub place_past : length l ≤ i → place_for s (drop i l) ≡ 0
  unfolding place_for
  place_past h = ap (place_for s) (drop_of_length-le l h)
