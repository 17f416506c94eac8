-- `occurrence` meets its contract.
-- Assumes nothing.
use mathlib.Core.Path.{sym}
use Rattle.slices.proofs.Choice.{pick_yes, pick_no}
use Rattle.select_commands.proofs.occurrence.Goals as goal

pub returns-then-again : goal.returns-then-again
returns-then-again c = sym (pick_yes _ _ _ c.if-again.true)

pub returns-else-again : goal.returns-else-again
returns-else-again c = sym (pick_no _ _ _ c.if-again.false)
