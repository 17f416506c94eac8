-- `decimal_dates::limits::between` meets its contract: where the first comparison holds, the second is the answer.
-- Assumes nothing.
use mathlib.Core.Path.{refl, sym, ◌∙◌}
use borrow.Author.Tests.{le-leb, lt-leb}
use Rattle.slices.specs.Tests.{between}
use Rattle.slices.proofs.Tests.{held, failed, last}
use Rattle.decimal_dates.proofs.limits.between.Goals as goal

pub returns-then-low-n : goal.returns-then-low-n
unfolding between
returns-then-low-n c = sym (held refl _ (le-leb _ _ c.if-low-n.true) ∙ last refl)

pub returns-else-low-n : goal.returns-else-low-n
unfolding between
returns-else-low-n c = sym (failed refl _ (lt-leb _ _ c.if-low-n.false))
