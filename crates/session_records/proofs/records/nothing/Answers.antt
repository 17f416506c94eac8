-- `records::nothing` meets its contract.
-- Assumes nothing.
use mathlib.Core.Path.{refl}
use Rattle.slices.specs.Writing.{zeros}
use Rattle.session_records.specs.Slots.{empty_store}
use Rattle.session_records.proofs.records.nothing.Goals as goal

pub returns : goal.returns
unfolding empty_store zeros
returns c = refl
