-- `refusal` meets its contract: each arm is the definition's at that word.
-- Assumes nothing.
use mathlib.Core.Path.{sym, ap}
use Rattle.words.specs.Words.{word_refusal}
use Rattle.words.proofs.refusal.Goals as goal

pub returns-in-Host : goal.returns-in-Host
unfolding word_refusal
returns-in-Host c = sym (ap word_refusal c.in-Host.is)

pub returns-in-Results : goal.returns-in-Results
unfolding word_refusal
returns-in-Results c = sym (ap word_refusal c.in-Results.is)
