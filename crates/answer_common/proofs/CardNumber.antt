-- Halves of bytes by their places: two to a byte. Digits at the front are counted on over one more, and stop at what is none.
-- Assumes nothing.
use mathlib.Core.Path.{◌≡◌, refl, ap, ◌∙◌}
use mathlib.Core.List.{List, [], ◌∷◌}
use Prim.Native.Nat.{ℕ, zero, suc, ◌+◌, ◌*◌, ◌/◌, ◌%◌, ◌≤◌, ◌<◌}
use native.Mathlib.Numerals.{add-one}
use native.Mathlib.Omega.{arith}
use lib.ListN.{length, get_or, drop, drop_of_length-le}
use lib.Seq.{drop-cons}
use borrow.Author.Tests.{le-leb, lt-leb}
use Rattle.slices.proofs.Choice.{pick_yes, pick_no}
use Rattle.answer_common.specs.CardNumber.{halves, digits}

two_on : (i : ℕ) → suc (suc i) / 2 ≡ suc (i / 2)
two_on i = omega arith

pub upper : (v : List ℕ) (i : ℕ) → i % 2 ≡ 0 → get_or v (i / 2) 0 / 16 ≡ get_or (halves v) i 0
unfolding halves
upper [] i e = refl
upper (b ∷ s) zero e = refl
upper (b ∷ s) (suc zero) e = absurd (omega arith)
upper (b ∷ s) (suc (suc i)) e = ap (λ (k : ℕ). get_or (b ∷ s) k 0 / 16) (two_on i) ∙ upper s i (omega arith)

pub lower : (v : List ℕ) (i : ℕ) → (i % 2 ≡ 0 → ⊥) → get_or v (i / 2) 0 % 16 ≡ get_or (halves v) i 0
unfolding halves
lower [] i e = refl
lower (b ∷ s) zero e = absurd (e refl)
lower (b ∷ s) (suc zero) e = refl
lower (b ∷ s) (suc (suc i)) e = ap (λ (k : ℕ). get_or (b ∷ s) k 0 % 16) (two_on i) ∙ lower s i (λ z. e (omega arith))

pub halves_length : (v : List ℕ) → length (halves v) ≡ 2 * length v
unfolding halves
halves_length [] = refl
halves_length (b ∷ s) = let rest = halves_length s in omega arith

module _ (ns : List ℕ) (i : ℕ) where
  pub digit_on : i < length ns → get_or ns i 0 ≤ 9 → i + digits (drop i ns) ≡ i + 1 + digits (drop (i + 1) ns)
  unfolding digits
  digit_on h d =
      let one : digits (drop i ns) ≡ suc (digits (drop (suc i) ns)) = ap digits (drop-cons ns i 0 h) ∙ pick_yes _ _ _ (le-leb _ 9 d) in
      let next : digits (drop (i + 1) ns) ≡ digits (drop (suc i) ns) = ap (λ (k : ℕ). digits (drop k ns)) (add-one i) in
      omega arith

  pub digit_stop : i < length ns → 9 < get_or ns i 0 → i + digits (drop i ns) ≡ i
  unfolding digits
  digit_stop h d = let none : digits (drop i ns) ≡ 0 = ap digits (drop-cons ns i 0 h) ∙ pick_no _ _ _ (lt-leb _ 9 d) in omega arith

  pub digit_end : length ns ≤ i → i + digits (drop i ns) ≡ i
  unfolding digits
  digit_end h = let none : digits (drop i ns) ≡ 0 = ap digits (drop_of_length-le ns h) in omega arith
