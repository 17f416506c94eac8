-- `is_allowed` meets its contract: each arm is the definition's at that word.
-- Assumes nothing.
use mathlib.Core.Path.{sym, ap, ◌∙◌}
use Rattle.words.specs.declared.Word.{Word}
use Rattle.words.specs.Words.{word_allowed}
use Rattle.words.proofs.is_allowed.Goals as goal

pub returns-in-Host : goal.returns-in-Host
unfolding word_allowed
returns-in-Host c =
    let args = c.args in
    c.is_reply.ensures ∙ sym (ap (λ (x : Word). word_allowed x args.count args.p.now) c.in-Host.is)

pub returns-in-Results : goal.returns-in-Results
unfolding word_allowed
returns-in-Results c =
    let args = c.args in
    c.are_results.ensures ∙ sym (ap (λ (x : Word). word_allowed x args.count args.p.now) c.in-Results.is)
