-- `requests::verify` meets its contract.
-- Assumes nothing.
use mathlib.Core.Path.{sym, ap, ◌∙◌}
use Rattle.slices.proofs.Choice.{pick_yes, pick_no}
use Rattle.rulebook.specs.Phase.{Phase}
use Rattle.rulebook.specs.Turn.{verifying}
use Rattle.quick_said.specs.Said.{found_from}
use Rattle.quick_follow.proofs.requests.verify.Goals as goal

pub returns-then-is_due : goal.returns-then-is_due
unfolding verifying
returns-then-is_due c =
    let args = c.args in
    c.results.ensures
    ∙ sym
    (ap (λ (p : Phase). found_from p args.at.k args.at.zeros args.tape.now)
    (pick_yes _ _ _ (sym c.is_due.ensures ∙ c.if-is_due.true)))

pub returns : goal.returns
unfolding verifying
returns c =
    let args = c.args in
    c.first.ensures
    ∙ sym
    (ap (λ (p : Phase). found_from p args.at.k args.at.zeros args.tape.now)
    (pick_no _ _ _ (sym c.is_due.ensures ∙ c.if-is_due.false)))
