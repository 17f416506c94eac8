-- `decimal_dates::decimal::decimal_byte` meets its contract: where the upper half is a digit, the lower half decides.
-- Assumes nothing.
use mathlib.Core.Path.{refl, sym, ◌∙◌}
use borrow.Author.Tests.{le-leb, lt-leb}
use Rattle.decimal_dates.specs.Decimal.{decimal_byte}
use Rattle.slices.proofs.Tests.{held, failed, last}
use Rattle.decimal_dates.proofs.decimal.decimal_byte.Goals as goal

pub returns-then-b-le9 : goal.returns-then-b-le9
unfolding decimal_byte
returns-then-b-le9 c = sym (held refl _ (le-leb _ _ c.if-b-le9.true) ∙ last refl)

pub returns-else-b-le9 : goal.returns-else-b-le9
unfolding decimal_byte
returns-else-b-le9 c = sym (failed refl _ (lt-leb _ _ c.if-b-le9.false))
