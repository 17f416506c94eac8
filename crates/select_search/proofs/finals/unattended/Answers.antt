-- `finals::unattended` meets its contract.
-- Assumes nothing.
use mathlib.Core.Path.{sym, ap, ◌∙◌}
use mathlib.Core.Bool.{false}
use Rattle.slices.proofs.Choice.{pick_yes, pick_no}
use Rattle.select_list.specs.Kept.{list_in}
use Rattle.select_search.specs.Final.{unattended}
use Rattle.select_search.specs.Turns.{turn_of}
use Rattle.select_search.specs.declared.Step.TheVariants.{Final}
use Rattle.select_search.proofs.Turning.{goes_any}
use Rattle.select_search.proofs.finals.unattended.Goals as goal

pub returns-then-confirms_at : goal.returns-then-confirms_at
unfolding turn_of unattended
returns-then-confirms_at c = sym (ap turn_of (pick_yes _ _ _ (sym c.confirms_at.ensures ∙ c.if-confirms_at.true)))

pub returns : goal.returns
unfolding unattended
returns c =
    let a = c.args in
    c.go.ensures
    ∙ (goes_any a.stand (Final 0 false) (list_in a.list.now)
    ∙ sym (ap turn_of (pick_no _ _ _ (sym c.confirms_at.ensures ∙ c.if-confirms_at.false))))
