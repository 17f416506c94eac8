-- `decimal_dates::dates::whole_year` meets its contract: the border is at 50.
-- Assumes nothing.
use mathlib.Core.Path.{sym}
use native.Mathlib.Omega.{arith}
use borrow.Author.Tests.{lt-ltb, le-ltb}
use Rattle.slices.proofs.Choice.{pick_yes, pick_no}
use Rattle.decimal_dates.proofs.dates.whole_year.Goals as goal

pub returns-then-y-lt50 : goal.returns-then-y-lt50
returns-then-y-lt50 c = (sym (pick_yes _ _ _ (lt-ltb _ _ c.if-y-lt50.true)), omega arith)

pub returns-else-y-lt50 : goal.returns-else-y-lt50
returns-else-y-lt50 c = (sym (pick_no _ _ _ (le-ltb _ _ c.if-y-lt50.false)), omega arith)
