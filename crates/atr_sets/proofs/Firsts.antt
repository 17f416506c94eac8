-- Of a list of rules that are numbered one after the other, the lowest bit of their set is the first that is broken, and its place
-- is the one that stands beside that number.
-- Assumes nothing.
use mathlib.Core.Path.{◌≡◌, refl, sym, ap, ◌∙◌}
use mathlib.Core.Bool.{true, false}
use mathlib.Core.List.{List, [], ◌∷◌, map}
use Prim.Native.Nat.{ℕ, zero, suc, ◌+◌, ◌*◌, ◌-◌, ◌/◌, ◌%◌, ◌≤◌, ◌<◌}
use native.Mathlib.Omega.{arith}
use lib.Dec.{eqb}
use lib.ListN.{length, get_or, drop}
use borrow.Author.Tests.{eq-eqb, ne_eqb}
use Rattle.slices.specs.Choice.{pick}
use Rattle.slices.specs.Tables.{any_of, beside}
use Rattle.slices.proofs.Choice.{pick_yes, pick_no, picked, either}
use Rattle.atr_characters.specs.Data.{one_if}
use Rattle.atr_rules.specs.Names.{numbers}
use Rattle.atr_rules.specs.Lines.{Line, set_of, first_broken}
use Rattle.atr_sets.specs.Sets.{lowest}

-- one bit on
pub lowest_on : (k x : ℕ) → k ≤ numbers
    → lowest (numbers + 1 - k) k x ≡ pick (eqb (x % 2) 1) k (lowest (numbers + 1 - (k + 1)) (k + 1) (x / 2))
unfolding lowest
lowest_on k x h = let more : numbers + 1 - k ≡ suc (numbers + 1 - (k + 1)) = omega arith in ap (λ (n : ℕ). lowest n k x) more

-- rules that are numbered one after the other from k on
abbrev pub numbers_from : ℕ → ℕ → List ℕ
numbers_from k zero = []
numbers_from k (suc n) = k ∷ numbers_from (k + 1) n

abbrev pub Numbered : ℕ → List Line → Type 0
Numbered k xs = map (λ (x : Line). x.number) xs ≡ numbers_from k (length xs)

head_number : (k : ℕ) (x : Line) (xs : List Line) → Numbered k (x ∷ xs) → x.number ≡ k
head_number k x xs h = ap (λ (l : List ℕ). get_or l 0 0) h

tail_numbered : (k : ℕ) (x : Line) (xs : List Line) → Numbered k (x ∷ xs) → Numbered (k + 1) xs
tail_numbered k x xs h = ap (drop 1) h

-- the first broken of them has a number from k on, or there is none
number_from_lem : (k : ℕ) (xs : List Line) → Numbered k xs → (j : ℕ) → 0 < j → j < k → (first_broken xs).number ≡ j → ⊥
unfolding first_broken
number_from_lem k [] h j p q = λ e. omega arith
number_from_lem k (x ∷ xs) h j p q =
    picked (λ (y : Line). y.number ≡ j → ⊥) x.broken _ _
    (λ e f. let n = head_number k x xs h in omega arith)
    (λ e f. number_from_lem (k + 1) xs (tail_numbered k x xs h) j p (omega arith) f)

pub first_number : (n k : ℕ) (xs : List Line) → Numbered k xs → length xs ≤ n → lowest n k (set_of xs) ≡ (first_broken xs).number
unfolding lowest set_of first_broken
first_number n k [] h l = none n k
  where
    none : (n k : ℕ) → lowest n k 0 ≡ 0
    none zero k = refl
    none (suc n) k = pick_no (eqb (0 % 2) 1) k _ refl ∙ none n (k + 1)
first_number zero k (x ∷ xs) h l = absurd (omega arith)
first_number (suc n) k (x ∷ xs) h l =
    either x.broken
    (λ e.
    let set : one_if x.broken ≡ 1 = ap one_if e in
    let odd : (one_if x.broken + 2 * set_of xs) % 2 ≡ 1 = omega arith in
    pick_yes _ _ _ (eq-eqb _ 1 odd) ∙ sym (ap (λ (y : Line). y.number) (pick_yes x.broken x (first_broken xs) e) ∙ head_number k x xs h))
    (λ e.
    let unset : one_if x.broken ≡ 0 = ap one_if e in
    let half : (one_if x.broken + 2 * set_of xs) / 2 ≡ set_of xs = omega arith in
    let even : (one_if x.broken + 2 * set_of xs) % 2 ≡ 0 = omega arith in
    let later = ap (λ (y : Line). y.number) (pick_no x.broken x (first_broken xs) e) in
    pick_no _ _ _ (ap (λ (r : ℕ). eqb r 1) even)
    ∙ (ap (lowest n (k + 1)) half ∙ (first_number n (k + 1) xs (tail_numbered k x xs h) (omega arith) ∙ sym later)))

pub place_beside : (k : ℕ) (xs : List Line) → 0 < k → Numbered k xs
    → beside 0 (first_broken xs).number (map (λ (x : Line). (x.number, x.place)) xs) ≡ (first_broken xs).place
unfolding beside first_broken
place_beside k [] p h = refl
place_beside k (x ∷ xs) p h =
    either x.broken
    (λ e.
    let first = pick_yes x.broken x (first_broken xs) e in
    pick_yes _ _ _ (eq-eqb _ _ (ap (λ (y : Line). y.number) first)) ∙ sym (ap (λ (y : Line). y.place) first))
    (λ e.
    let first = pick_no x.broken x (first_broken xs) e in
    let other : (first_broken xs).number ≡ k → ⊥ = number_from_lem (k + 1) xs (tail_numbered k x xs h) k p (omega arith) in
    pick_no _ _ _ (ne_eqb _ _ (λ q. other (sym (ap (λ (y : Line). y.number) first) ∙ (q ∙ head_number k x xs h))))
    ∙ (ap (λ (y : Line). beside 0 y.number (map (λ (x : Line). (x.number, x.place)) xs)) first
    ∙ (place_beside (k + 1) xs (omega arith) (tail_numbered k x xs h) ∙ sym (ap (λ (y : Line). y.place) first))))

-- no rule is broken exactly where the set is empty
pub none_set : (xs : List Line) → set_of xs ≡ 0 → any_of (map (λ (x : Line). x.broken) xs) ≡ false
unfolding set_of any_of
none_set [] e = refl
none_set (x ∷ xs) e =
    either x.broken
    (λ y. let set : one_if x.broken ≡ 1 = ap one_if y in absurd (omega arith))
    (λ n. pick_no _ _ _ n ∙ none_set xs (omega arith))

pub some_set : (xs : List Line) → (set_of xs ≡ 0 → ⊥) → any_of (map (λ (x : Line). x.broken) xs) ≡ true
unfolding set_of any_of
some_set [] e = absurd (e refl)
some_set (x ∷ xs) e =
    either x.broken
    (λ y. pick_yes _ _ _ y)
    (λ n. let unset : one_if x.broken ≡ 0 = ap one_if n in pick_no _ _ _ n ∙ some_set xs (λ z. e (omega arith)))
