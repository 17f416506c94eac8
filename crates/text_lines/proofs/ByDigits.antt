-- A number read a digit at a time: how one digit takes the reading on, and what ends it. Assumes nothing.
use mathlib.Core.Path.{◌≡◌, ap, ◌∙◌}
use mathlib.Core.Bool.{◌&&◌}
use mathlib.Core.List.{List}
use Prim.Native.Nat.{ℕ, ◌+◌, ◌*◌, ◌≤◌, ◌<◌}
use native.Mathlib.Numerals.{add-one}
use lib.Dec.{ltb}
use lib.ListN.{length, get_or, drop, drop_of_length-le}
use lib.Seq.{drop-cons}
use borrow.Author.Tests.{lt-ltb, ltb-true}
use Rattle.slices.specs.Choice.{pick}
use Rattle.slices.proofs.Choice.{pick_yes, pick_no, and_both}
use Rattle.text_hex.specs.Digits.{digit}
use Rattle.text_hex.proofs.Extra.{and_no}
use Rattle.text_lines.specs.Decimal.{number_from, no_number}

module _ (n : ℕ) (s : List ℕ) (i d : ℕ) (told : d ≡ digit (get_or s i 0)) (h : i < length s) where
  one_further : number_from n (drop i s) ≡ pick (ltb d 10 && ltb (10 * n + d) no_number)
      (number_from (10 * n + d) (drop (i + 1) s)) no_number
  unfolding number_from
  one_further = ap (number_from n) (drop-cons s i 0 h) ∙ (rw (add-one, told))

  pub number_next : d < 10 → 10 * n + d < no_number → number_from n (drop i s) ≡ number_from (10 * n + d) (drop (i + 1) s)
  number_next k l = one_further ∙ pick_yes _ _ _ (and_both _ _ (lt-ltb _ _ k) (lt-ltb _ _ l))

  pub number_stop : (d < 10 → 10 * n + d < no_number → ⊥) → number_from n (drop i s) ≡ no_number
  number_stop not_both = one_further ∙ pick_no _ _ _ (and_no _ _ (λ k l. not_both (ltb-true _ _ k) (ltb-true _ _ l)))

pub number_end : (n : ℕ) (s : List ℕ) (i : ℕ) → length s ≤ i → number_from n (drop i s) ≡ n
unfolding number_from
number_end n s i h = ap (number_from n) (drop_of_length-le s h)
