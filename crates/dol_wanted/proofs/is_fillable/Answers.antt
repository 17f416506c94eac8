-- `dol_wanted::is_fillable` meets its contract: a list can be filled where its count is not over the most.
-- Assumes nothing.
use mathlib.Core.Path.{◌∙◌, ap}
use Prim.Native.Nat.{ℕ}
use lib.Dec.{leb}
use Rattle.dol_wanted.specs.Wanted.{most}
use Rattle.dol_wanted.proofs.Entries.{tally_fillable}
use Rattle.dol_wanted.proofs.is_fillable.Goals as goal

pub returns : goal.returns
returns c = ap (λ (n : ℕ). leb n most) c.total.ensures.0 ∙ tally_fillable c.args.list.now
