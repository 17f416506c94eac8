-- A line's first word, by the bytes that it begins with and the one behind them; and digits one byte further.
-- Assumes nothing.
use Rattle.std.proofs.Common.{◌≡◌, refl, true, false, ℕ, ◌<◌, ◌≤◌, ◌+◌, List, [], ◌∷◌, length, get_or, drop, arith, rules, eqb, add-one}
use Rattle.std.proofs.Math.Seq.{drop-cons}
use Rattle.std.proofs.Math.ListN.{drop_of_length-le}
use Rattle.std.proofs.lemmas.Grind.{common_steps}
use Rattle.std.specs.List.{starts_with}
use Rattle.slices.specs.Choice.{pick}
use Rattle.text_hex.specs.Digits.{digit}
use Rattle.playing.specs.Lines.{named, all_digits}

pub named_not : (w s : List ℕ) → starts_with eqb s w ≡ false → named w s ≡ false
unfolding named pick
named_not [] s e = search rules
named_not (x ∷ w) [] e = refl
named_not (x ∷ w) (b ∷ s) e = grind (arith, common_steps, named_not w s)

pub named_end : (w s : List ℕ) → starts_with eqb s w ≡ true → length s ≤ length w → named w s ≡ true
unfolding named pick
named_end [] [] e h = refl
named_end [] (b ∷ s) e h = absurd (omega arith)
named_end (x ∷ w) [] e h = search rules
named_end (x ∷ w) (b ∷ s) e h = grind (arith, common_steps, named_end w s)

pub named_more : (w s : List ℕ) → starts_with eqb s w ≡ true → length w < length s → named w s ≡ eqb (get_or s (length w) 0) 0x20
unfolding named pick
named_more [] (b ∷ s) e h = refl
named_more [] [] e h = absurd (omega arith)
named_more (x ∷ w) [] e h = absurd (omega arith)
named_more (x ∷ w) (b ∷ s) e h = grind (arith, common_steps, named_more w s)

pub digits_next : (s : List ℕ) (i : ℕ) → i < length s → digit (get_or s i 0) < 16 → all_digits (drop i s) ≡ all_digits (drop (i + 1) s)
unfolding all_digits pick
digits_next s i h k = rw (add-one, drop-cons s i 0) (grind (arith, common_steps))

pub digits_stop : (s : List ℕ) (i : ℕ) → i < length s → 16 ≤ digit (get_or s i 0) → all_digits (drop i s) ≡ false
unfolding all_digits pick
digits_stop s i h k = rw (drop-cons s i 0) (grind (arith, common_steps))

pub digits_end : (s : List ℕ) (i : ℕ) → length s ≤ i → all_digits (drop i s) ≡ true
unfolding all_digits
digits_end s i h = rw drop_of_length-le refl
