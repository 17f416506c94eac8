-- `and` and `or` of numbers, digit by digit: each law holds of the lowest digits and of the halves.
-- Assumes nothing.
use mathlib.Core.Path.{◌≡◌, refl, ap, ap₂, ◌∙◌}
use Prim.Native.Nat.{ℕ, ◌/◌, ◌%◌, min, max}
use native.Mathlib.Omega.{arith}
use lib.Arith.{bin_ind}
use lib.Bits.{bit_and, bit_or, and_step, or_step, or_add_and, and_le_l, and_le_r}

or_half : (a b : ℕ) → bit_or a b / 2 ≡ bit_or (a / 2) (b / 2)
or_half a b = omega (arith, or_step a b)

or_low : (a b : ℕ) → bit_or a b % 2 ≡ max (a % 2) (b % 2)
or_low a b = omega (arith, or_step a b)

and_half : (a b : ℕ) → bit_and a b / 2 ≡ bit_and (a / 2) (b / 2)
and_half a b = omega (arith, and_step a b)

and_low : (a b : ℕ) → bit_and a b % 2 ≡ min (a % 2) (b % 2)
and_low a b = omega (arith, and_step a b)

pub or_assoc : (a b c : ℕ) → bit_or (bit_or a b) c ≡ bit_or a (bit_or b c)
or_assoc =
    bin_ind
    (λ (n : ℕ). (b c : ℕ) → bit_or (bit_or n b) c ≡ bit_or n (bit_or b c))
    (λ b c. refl)
    (λ n ih b c.
    let left = ap (λ (x : ℕ). bit_or x (c / 2)) (or_half n b) ∙ ih (b / 2) (c / 2) in
    let right = ap (bit_or (n / 2)) (or_half b c) in
    omega (arith, or_step (bit_or n b) c, or_step n (bit_or b c), left, right, or_low n b, or_low b c))

pub and_over_or : (a b t : ℕ) → bit_and (bit_or a b) t ≡ bit_or (bit_and a t) (bit_and b t)
and_over_or =
    bin_ind
    (λ (n : ℕ). (b t : ℕ) → bit_and (bit_or n b) t ≡ bit_or (bit_and n t) (bit_and b t))
    (λ b t. refl)
    (λ n ih b t.
    let left = ap (λ (x : ℕ). bit_and x (t / 2)) (or_half n b) ∙ ih (b / 2) (t / 2) in
    let right = ap₂ bit_or (and_half n t) (and_half b t) in
    omega (arith, and_step (bit_or n b) t, or_step (bit_and n t) (bit_and b t), left, right, or_low n b, and_low n t, and_low b t))

-- an `or` is zero where both numbers are
pub or_zero : (a b : ℕ) → bit_or a b ≡ 0 → (a ≡ 0) × (b ≡ 0)
or_zero a b e = omega (arith, or_add_and a b, and_le_l a b, and_le_r a b)
