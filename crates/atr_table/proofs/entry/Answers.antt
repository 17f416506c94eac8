-- `atr_table::entry` meets its contract: the rule of the table, at the entry that is taken.
-- Assumes nothing.
use borrow.Author.Rules.{rules}
use Rattle.atr_table.proofs.entry.Goals as goal

pub returns : goal.returns
returns c = c.requires.entries c.args.b (search rules)
