-- `head::fitting` meets its contract: one test.
-- Assumes nothing.
use mathlib.Core.Path.{sym}
use borrow.Author.Tests.{le-leb, lt-leb}
use Rattle.slices.proofs.Choice.{pick_yes, pick_no}
use Rattle.tlv_head.proofs.head.fitting.Goals as goal

pub returns-then-end-s : goal.returns-then-end-s
returns-then-end-s c = sym (pick_yes _ _ _ (le-leb _ _ c.if-end-s.true))

pub returns-else-end-s : goal.returns-else-end-s
returns-else-end-s c = sym (pick_no _ _ _ (lt-leb _ _ c.if-end-s.false))
