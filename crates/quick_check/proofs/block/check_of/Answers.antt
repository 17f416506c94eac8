-- `quick_check::block::check_of` meets its contract: what stands before the zeros that are passed is taken in, and then these are passed.
-- Assumes nothing.
use mathlib.Core.Path.{sym, ap, ◌∙◌}
use Prim.Native.Nat.{ℕ, ◌*◌, ◌/◌, ◌-◌}
use native.Mathlib.Omega.{arith}
use lib.Bits.{bit_xor}
use Rattle.tape_crc.specs.Check.{divided, ones, covered}
use Rattle.quick_check.specs.Tables.{step}
use Rattle.quick_check.proofs.Zeros.{check_passing}
use Rattle.quick_check.proofs.block.check_of.Goals as goal

pub returns : goal.returns
returns c =
    let b = c.args.block.now in
    let from = c.args.from in
    let f = (covered - from) / step in
    ap (λ (r : ℕ). bit_xor r ones) (c.past.ensures ∙ ap (divided (8 * (step * f))) c.after.ensures)
    ∙ sym (check_passing b from f (omega (arith, c.requires.0)) (omega (arith, c.requires.2)) c.requires.3)
