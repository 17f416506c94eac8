-- Digits and their values: a byte's range tells its value, and the digit written for a value is read as that value.
-- Assumes nothing.
use mathlib.Core.Path.{◌≡◌, ◌∙◌}
use mathlib.Core.Bool.{true, false}
use Prim.Native.Nat.{ℕ, ◌+◌, ◌-◌, ◌≤◌, ◌<◌}
use native.Mathlib.Omega.{arith}
use lib.Dec.{ltb}
use borrow.Author.Tests.{ltb-true, ltb-false, le-leb, leb-true}
use Rattle.slices.proofs.Choice.{pick_yes, pick_no, picked, and_both}
use Rattle.text_hex.specs.Digits.{among, digit, digit_for}
use Rattle.text_hex.proofs.Extra.{and_no}

module _ (a e b : ℕ) where
  inside : a ≤ b → b ≤ e → among a e b ≡ true
  unfolding among
  inside h k = and_both _ _ (le-leb a b h) (le-leb b e k)

  outside : (a ≤ b → b ≤ e → ⊥) → among a e b ≡ false
  unfolding among
  outside n = and_no _ _ (λ h k. n (leb-true a b h) (leb-true b e k))

module _ (b : ℕ) where
  pub decimal : 0x30 ≤ b → b ≤ 0x39 → digit b ≡ b - 0x30
  unfolding digit
  decimal h k = pick_yes _ _ _ (inside _ _ _ h k)

  pub upper_case : 0x41 ≤ b → b ≤ 0x46 → digit b ≡ b - 0x41 + 10
  unfolding digit
  upper_case h k = pick_no _ _ _ (outside _ _ _ (λ i j. omega arith)) ∙ pick_yes _ _ _ (inside _ _ _ h k)

  pub lower_case : 0x61 ≤ b → b ≤ 0x66 → digit b ≡ b - 0x61 + 10
  unfolding digit
  lower_case h k =
      pick_no _ _ _ (outside _ _ _ (λ i j. omega arith))
      ∙ (pick_no _ _ _ (outside _ _ _ (λ i j. omega arith)) ∙ pick_yes _ _ _ (inside _ _ _ h k))

  pub no_digit : (0x30 ≤ b → b ≤ 0x39 → ⊥) → (0x41 ≤ b → b ≤ 0x46 → ⊥) → (0x61 ≤ b → b ≤ 0x66 → ⊥) → digit b ≡ 16
  unfolding digit
  no_digit n u l =
      pick_no _ _ _ (outside _ _ _ n) ∙ (pick_no _ _ _ (outside _ _ _ u) ∙ pick_no _ _ _ (outside _ _ _ l))

-- the digit written for a value is read as that value
pub read_back : (d : ℕ) → d < 16 → digit (digit_for d) ≡ d
unfolding digit_for
read_back d h =
    picked (λ x. digit x ≡ d) (ltb d 10) (0x30 + d) (0x41 + (d - 10))
    (λ e. let small = ltb-true d 10 e in decimal (0x30 + d) (omega arith) (omega arith) ∙ (omega arith))
    (λ e.
    let large = ltb-false d 10 e in
    upper_case (0x41 + (d - 10)) (omega arith) (omega arith) ∙ (omega arith))
