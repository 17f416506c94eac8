-- `quick_check::damages` meets its contract: the rules of the stored numbers are computed here, over all of them, before these are lent.
-- Assumes nothing.
use mathlib.Core.Path.{refl}
use Rattle.slices.specs.Choice.{pick}
use Rattle.tape_crc.specs.Check.{divisor, shifted, divided}
use Rattle.quick_check.proofs.damages.Goals as goal

pub invariant_of-each : goal.invariant_of-each
unfolding divided shifted divisor pick
invariant_of-each c = record {
  leaving = record { size = refl; leaving = refl; moving = refl };
  passing = record { size = refl; passing = refl };
}
