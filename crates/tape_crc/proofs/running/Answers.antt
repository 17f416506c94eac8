-- `tape_crc::running` meets its contract: the rules of the tables are computed here, over all of their entries, before they are lent.
-- Assumes nothing.
use mathlib.Core.Path.{refl}
use Rattle.slices.specs.Choice.{pick}
use Rattle.tape_crc.specs.Check.{divisor, shifted, divided}
use Rattle.tape_crc.proofs.running.Goals as goal

pub invariant_of-by_tables : goal.invariant_of-by_tables
unfolding divided shifted divisor pick
invariant_of-by_tables c = record {
  leaves = record { size = refl; rule = refl };
  one_on = record { size = refl; rule = refl };
  two_on = record { size = refl; rule = refl };
  three_on = record { size = refl; rule = refl };
}
