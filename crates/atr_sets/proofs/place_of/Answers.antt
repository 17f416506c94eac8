-- `place_of` meets its contract: a number that is none of the table's has the place 0.
-- Assumes nothing.
use mathlib.Core.Path.{sym, ◌∙◌}
use Rattle.slices.proofs.Tables.{beside_none}
use Rattle.atr_sets.proofs.Rules.{place_table}
use Rattle.atr_sets.proofs.place_of.Goals as goal

pub returns-in_default : goal.returns-in_default
returns-in_default c = sym (place_table c.args.l c.args.rule ∙ beside_none 0 c.args.rule _ c.in_default.in_default-own.rest)
