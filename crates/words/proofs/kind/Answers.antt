-- `kind` meets its contract: each arm is the definition's at that word.
-- Assumes nothing.
use mathlib.Core.Path.{sym, ap}
use Rattle.words.specs.Words.{word_kind}
use Rattle.words.proofs.kind.Goals as goal

pub returns-in-Host : goal.returns-in-Host
unfolding word_kind
returns-in-Host c = sym (ap word_kind c.in-Host.is)

pub returns-in-Results : goal.returns-in-Results
unfolding word_kind
returns-in-Results c = sym (ap word_kind c.in-Results.is)
