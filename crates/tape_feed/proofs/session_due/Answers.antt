-- `session_due` meets its contract: block 0 says it, and then it is known.
-- Assumes nothing.
use mathlib.Core.Path.{sym, ◌∙◌}
use borrow.Author.Tests.{eq-eqb, ne_eqb}
use Rattle.slices.proofs.Choice.{pick_yes, pick_no}
use Rattle.tape_feed.specs.Feeding.{session_due}
use Rattle.tape_feed.proofs.session_due.Goals as goal

pub returns-then-reader-eq0 : goal.returns-then-reader-eq0
unfolding session_due
returns-then-reader-eq0 c = c.session.ensures ∙ sym (pick_yes _ _ _ (eq-eqb _ 0 c.if-reader-eq0.true))

pub returns-else-reader-eq0 : goal.returns-else-reader-eq0
unfolding session_due
returns-else-reader-eq0 c = sym (pick_no _ _ _ (ne_eqb _ 0 c.if-reader-eq0.false))
