-- A number read a digit at a time: how one digit takes it on, and what ends it.
-- Assumes nothing.
use mathlib.Core.Path.{◌≡◌, ap, ◌∙◌}
use mathlib.Core.Bool.{◌&&◌}
use mathlib.Core.List.{List}
use Prim.Native.Nat.{ℕ, ◌+◌, ◌*◌, ◌≤◌, ◌<◌}
use native.Mathlib.Numerals.{add-one}
use lib.Dec.{ltb, leb}
use lib.ListN.{length, get_or, drop, drop_of_length-le}
use lib.Seq.{drop-cons}
use borrow.Author.Tests.{lt-ltb, ltb-true, le-leb, leb-true}
use Rattle.slices.specs.Choice.{pick}
use Rattle.slices.proofs.Choice.{pick_yes, pick_no, and_both}
use Rattle.text_hex.specs.Digits.{digit}
use Rattle.text_lines.specs.Numbers.{continued}
use Rattle.text_hex.proofs.Extra.{and_no}

module _ (base most n : ℕ) (s : List ℕ) (i d : ℕ) (told : d ≡ digit (get_or s i 0)) where
  step : i < length s
      → continued base most n (drop i s)
      ≡ pick (ltb d base && leb (base * n + d) most) (continued base most (base * n + d) (drop (i + 1) s)) n
  unfolding continued
  step h = ap (continued base most n) (drop-cons s i 0 h) ∙ (rw (add-one, told))

  pub goes_on_lem : i < length s → d < base → base * n + d ≤ most
      → continued base most n (drop i s) ≡ continued base most (base * n + d) (drop (i + 1) s)
  goes_on_lem h k l = step h ∙ pick_yes _ _ _ (and_both _ _ (lt-ltb _ _ k) (le-leb _ _ l))

  pub ends_here : i < length s → (d < base → base * n + d ≤ most → ⊥) → continued base most n (drop i s) ≡ n
  ends_here h not_both = step h ∙ pick_no _ _ _ (and_no _ _ (λ k l. not_both (ltb-true _ _ k) (leb-true _ _ l)))

pub all_read : (base most n : ℕ) (s : List ℕ) (i : ℕ) → length s ≤ i → continued base most n (drop i s) ≡ n
unfolding continued
all_read base most n s i h = ap (continued base most n) (drop_of_length-le s h)
