-- `wanted` meets its contract: the list in the slots is whole.
-- Assumes nothing.
use mathlib.Core.Path.{sym, ap, ◌∙◌}
use Rattle.cvm.specs.Lists.{rules_in}
use Rattle.decide_verification.specs.Verification.{results_wanted}
use Rattle.decide_verification.proofs.Listing.{list_whole}
use Rattle.decide_verification.proofs.wanted.Goals as goal

pub returns : goal.returns
unfolding results_wanted
returns c =
    c.rules_in.ensures ∙ (ap rules_in c.value.ensures ∙ sym (ap rules_in (list_whole
    c.args.told.now)))
