-- `slots::room` meets its contract.
-- Assumes nothing.
use mathlib.Core.Path.{sym, ap, ◌∙◌}
use Rattle.session_records.specs.Slots.{room}
use Rattle.session_records.proofs.slots.room.Goals as goal

pub returns-in-Sizes : goal.returns-in-Sizes
unfolding room
returns-in-Sizes c = ap room (sym c.in-Sizes.is ∙ c.rule_for.ensures)

pub returns-in-Entries : goal.returns-in-Entries
unfolding room
returns-in-Entries c = ap room (sym c.in-Entries.is ∙ c.rule_for.ensures)

pub returns-in-Number : goal.returns-in-Number
unfolding room
returns-in-Number c = ap room (sym c.in-Number.is ∙ c.rule_for.ensures)

pub returns-in-Date : goal.returns-in-Date
unfolding room
returns-in-Date c = ap room (sym c.in-Date.is ∙ c.rule_for.ensures)

pub returns-in-Verification : goal.returns-in-Verification
unfolding room
returns-in-Verification c = ap room (sym c.in-Verification.is ∙ c.rule_for.ensures)

pub returns-in-Anything : goal.returns-in-Anything
unfolding room
returns-in-Anything c = ap room (sym c.in-Anything.is ∙ c.rule_for.ensures)
