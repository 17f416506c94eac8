-- `going::go` meets its contract.
-- Assumes nothing.
use mathlib.Core.Path.{sym, ap}
use borrow.Author.Tests.{lt-ltb, le-ltb}
use Rattle.slices.proofs.Choice.{pick_yes, pick_no}
use Rattle.select_search.specs.Search.{may_go_on, goes}
use Rattle.select_search.specs.Turns.{turn_of}
use Rattle.select_search.proofs.going.go.Goals as goal

pub returns-then-stand-lt-MOST : goal.returns-then-stand-lt-MOST
unfolding turn_of goes may_go_on
returns-then-stand-lt-MOST c = sym (ap turn_of (pick_yes _ _ _ (lt-ltb _ _ c.if-stand-lt-MOST.true)))

pub returns : goal.returns
unfolding turn_of goes may_go_on
returns c = sym (ap turn_of (pick_no _ _ _ (le-ltb _ _ c.if-stand-lt-MOST.false)))
