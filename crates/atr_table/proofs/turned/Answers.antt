-- `atr_table::turned` meets its contract. Here the rule of the stored table is computed, over all of its entries.
-- Assumes nothing.
use mathlib.Core.Path.{refl}
use Rattle.atr_table.specs.Turning.{opposite, turned}
use Rattle.atr_table.proofs.Entries.{by_test}
use Rattle.atr_table.proofs.turned.Goals as goal

pub entry-requires : goal.entry-requires
unfolding turned opposite
entry-requires c = by_test refl refl
