-- `tape_crc::past_part` meets its contract. The loop's invariant: what is joined is what the register's bits from the top down to k
-- leave, and beside it stands what bit k leaves. Assumes nothing.
use mathlib.Core.Path.{◌≡◌, refl, sym, ap, ap₂, ◌∙◌}
use Prim.Native.Nat.{ℕ, suc, ◌*◌, ◌/◌, ◌%◌, ◌^◌, ◌-◌}
use native.Mathlib.Omega.{arith}
use lib.Bits.{bit_xor}
use Rattle.slices.specs.Choice.{pick}
use Rattle.tape_crc.specs.Check.{divisor, shifted, divided}
use Rattle.tape_crc.specs.Parts.{part}
use Rattle.tape_crc.proofs.Parts.{nothing_left, bit_below, bit_more}
use Rattle.tape_crc.proofs.past_part.Goals as goal

above : 0xE95C_1271 ≡ divided (8 * part) (2 ^ 32)
unfolding divided shifted divisor pick
above = refl

pub loop-k-init : goal.loop-k-init
loop-k-init c =
    let none : c.args.register / 2 ^ 32 * 2 ^ 32 ≡ 0 = omega arith in
    (omega arith, above, sym (ap (divided (8 * part)) none ∙ nothing_left (8 * part)))

pub loop-k-preserved : goal.loop-k-preserved
loop-k-preserved c =
    let x = c.args.register in
    let l = c.loop-k in
    let one_on : suc (l.k - 1) ≡ l.k = omega arith in
    let left : c.shift-left.result ≡ divided (8 * part) (2 ^ (l.k - 1)) =
    c.shift-left.ensures
    ∙ (ap shifted (l.invariant.1 ∙ ap (λ (k : ℕ). divided (8 * part) (2 ^ k)) (sym one_on)) ∙ sym (bit_below (8 * part) (l.k - 1))) in (
      omega arith,
      left,
      ap₂ bit_xor
          (l.invariant.2 ∙ ap (λ (k : ℕ). divided (8 * part) (x / 2 ^ k * 2 ^ k)) (sym one_on))
          (ap (λ (y : ℕ). x / 2 ^ (l.k - 1) % 2 * y) left)
          ∙ sym (bit_more (8 * part) x (l.k - 1)),
    )
