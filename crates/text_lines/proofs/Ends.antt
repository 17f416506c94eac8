-- The bytes before the first of two, counted from a place on, a byte at a time; and behind a word there is less than with it.
-- Assumes nothing.
use mathlib.Core.Path.{◌≡◌, sym, ap, ◌∙◌}
use mathlib.Core.Bool.{true, ◌||◌, or-true}
use mathlib.Core.List.{List}
use Prim.Native.Nat.{ℕ, ◌+◌, ◌≤◌, ◌<◌}
use native.Mathlib.Numerals.{add-one}
use native.Mathlib.Omega.{arith}
use lib.Dec.{eqb}
use lib.ListN.{length, get_or, drop, length-drop, drop_of_length-le}
use lib.Seq.{drop-cons}
use borrow.Author.Tests.{eq-eqb, ne_eqb}
use Rattle.slices.proofs.Choice.{pick_yes, pick_no}
use Rattle.text_lines.specs.Lines.{before, word_end, after_word}

module _ (a b : ℕ) (s : List ℕ) (i : ℕ) where
  stop : i < length s → (eqb (get_or s i 0) a || eqb (get_or s i 0) b) ≡ true → before a b (drop i s) ≡ 0
  unfolding before
  stop h e = ap (before a b) (drop-cons s i 0 h) ∙ pick_yes _ _ _ e

  pub stop_first : i < length s → get_or s i 0 ≡ a → before a b (drop i s) ≡ 0
  stop_first h e = stop h (rw (eq-eqb _ _ e))

  pub stop_second : i < length s → get_or s i 0 ≡ b → before a b (drop i s) ≡ 0
  stop_second h e = stop h (rw (eq-eqb _ _ e) (or-true (eqb (get_or s i 0) a)))

  pub pass : i < length s → (get_or s i 0 ≡ a → ⊥) → (get_or s i 0 ≡ b → ⊥) → before a b (drop i s) ≡ before a b (drop (i + 1) s) + 1
  unfolding before
  pass h n m =
      ap (before a b) (drop-cons s i 0 h)
      ∙ (pick_no _ _ _ (rw (ne_eqb _ _ n, ne_eqb _ _ m))
      ∙ (sym (add-one _) ∙ ap (λ (k : ℕ). before a b (drop k s) + 1) (sym (add-one i))))

  pub at_end_lem : length s ≤ i → before a b (drop i s) ≡ 0
  unfolding before
  at_end_lem h = ap (before a b) (drop_of_length-le s h)

pub after_shorter : (s r : List ℕ) → r ≡ after_word s → 0 < length s → length r < length s
unfolding after_word
after_shorter s r e h = let size = ap length e ∙ length-drop (word_end s 0 + 1) s in omega arith
