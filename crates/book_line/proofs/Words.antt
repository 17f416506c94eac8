-- Words of a line: a word without a space or a line feed ends where the next of these stands, and what follows is behind it.
-- Assumes nothing.
use mathlib.Core.Path.{◌≡◌, refl, ap, ◌∙◌}
use mathlib.Core.Bool.{Bool, true, false, not, ◌&&◌, ◌||◌}
use mathlib.Core.List.{List, [], ◌∷◌, ◌++◌}
use Prim.Native.Nat.{ℕ, suc, ◌+◌}
use native.Mathlib.Nat.{zero-add}
use native.Mathlib.Numerals.{add-one}
use native.Mathlib.Omega.{arith}
use lib.Dec.{eqb}
use lib.ListN.{length, take, drop, drop_of_length-le}
use lib.Seq.{take_at, take-length}
use borrow.Author.Tests.{not-true}
use Rattle.slices.proofs.Choice.{pick_yes, pick_no, and_left, and_right, and_both}
use Rattle.text_lines.specs.Lines.{before, first_either, after_word}
use Rattle.book_line.specs.Lines.{word_in}

-- neither a nor b is in a list
unfoldable pub free : ℕ → ℕ → List ℕ → Bool
free a b [] = true
free a b (x ∷ s) = not (eqb x a || eqb x b) && free a b s

free_first : (a b x : ℕ) (s : List ℕ) → free a b (x ∷ s) ≡ true → (eqb x a || eqb x b) ≡ false
unfolding free
free_first a b x s f = not-true _ (and_left (not (eqb x a || eqb x b)) (free a b s) f)

free_rest : (a b x : ℕ) (s : List ℕ) → free a b (x ∷ s) ≡ true → free a b s ≡ true
unfolding free
free_rest a b x s f = and_right (not (eqb x a || eqb x b)) (free a b s) f

-- the first of them stands behind a list that has none
before_end : (a b c : ℕ) (w r : List ℕ) → free a b w ≡ true → (eqb c a || eqb c b) ≡ true → before a b (w ++ (c ∷ r)) ≡ length w
unfolding before
before_end a b c [] r f h = pick_yes _ _ _ h
before_end a b c (x ∷ w) r f h = pick_no _ _ _ (free_first a b x w f) ∙ ap suc (before_end a b c w r (free_rest a b x w f) h)

before_none : (a b : ℕ) (w : List ℕ) → free a b w ≡ true → before a b w ≡ length w
unfolding before
before_none a b [] f = refl
before_none a b (x ∷ w) f = pick_no _ _ _ (free_first a b x w f) ∙ ap suc (before_none a b w (free_rest a b x w f))

-- the place of the first one
pub first_end : (a b c : ℕ) (w r : List ℕ) → free a b w ≡ true → (eqb c a || eqb c b) ≡ true → first_either a b (w ++ (c ∷ r)) 0 ≡ length w
unfolding first_either
first_end a b c w r f h = zero-add _ ∙ before_end a b c w r f h

first_none : (a b : ℕ) (w : List ℕ) → free a b w ≡ true → first_either a b w 0 ≡ length w
unfolding first_either
first_none a b w f = zero-add _ ∙ before_none a b w f

module _ (w : List ℕ) (f : free 0x20 0x0A w ≡ true) where
  -- a word and a space
  pub word_first : (r : List ℕ) → word_in (w ++ (0x20 ∷ r)) ≡ w
  unfolding word_in
  word_first r = ap (λ (n : ℕ). take n (w ++ (0x20 ∷ r))) (first_end 0x20 0x0A 0x20 w r f refl) ∙ take_at w (0x20 ∷ r) (length w) refl

  pub word_after : (r : List ℕ) → after_word (w ++ (0x20 ∷ r)) ≡ r
  unfolding after_word
  word_after r =
      ap (λ (n : ℕ). drop (n + 1) (w ++ (0x20 ∷ r))) (first_end 0x20 0x0A 0x20 w r f refl)
      ∙ (ap (λ (n : ℕ). drop n (w ++ (0x20 ∷ r))) (add-one (length w)) ∙ behind w)
    where
      behind : (v : List ℕ) → drop (suc (length v)) (v ++ (0x20 ∷ r)) ≡ r
      behind [] = refl
      behind (x ∷ v) = behind v

  -- the last word
  pub word_last : word_in w ≡ w
  unfolding word_in
  word_last = ap (λ (n : ℕ). take n w) (first_none 0x20 0x0A w f) ∙ take-length w

  pub word_end : after_word w ≡ []
  unfolding after_word
  word_end = ap (λ (n : ℕ). drop (n + 1) w) (first_none 0x20 0x0A w f) ∙ drop_of_length-le w {i = length w + 1} (omega arith)

pub free_append : (a b : ℕ) (s t : List ℕ) → free a b s ≡ true → free a b t ≡ true → free a b (s ++ t) ≡ true
unfolding free
free_append a b [] t f g = g
free_append a b (x ∷ s) t f g =
    and_both (not (eqb x a || eqb x b)) (free a b (s ++ t)) (ap not (free_first a b x s f)) (free_append a b s t (free_rest a b x s f) g)
