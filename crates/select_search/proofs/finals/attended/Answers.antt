-- `finals::attended` meets its contract.
-- Assumes nothing.
use mathlib.Core.Path.{sym, ap, ◌∙◌}
use mathlib.Core.Bool.{false}
use Rattle.slices.proofs.Choice.{pick_yes, pick_no}
use Rattle.select_list.specs.Kept.{list_in}
use Rattle.select_search.specs.Final.{attended}
use Rattle.select_search.specs.Turns.{turn_of}
use Rattle.select_search.specs.declared.Step.TheVariants.{Final}
use Rattle.select_search.proofs.Turning.{goes_any, offers_any}
use Rattle.select_search.proofs.finals.attended.Goals as goal

pub returns-then-asks_shopper : goal.returns-then-asks_shopper
unfolding attended
returns-then-asks_shopper c =
    let a = c.args in
    c.offer.ensures
    ∙ (offers_any a.stand (list_in a.list.now)
    ∙ sym (ap turn_of (pick_yes _ _ _ (sym c.asks_shopper.ensures ∙ c.if-asks_shopper.true))))

pub returns : goal.returns
unfolding attended
returns c =
    let a = c.args in
    c.go.ensures
    ∙ (goes_any a.stand (Final 0 false) (list_in a.list.now)
    ∙ sym (ap turn_of (pick_no _ _ _ (sym c.asks_shopper.ensures ∙ c.if-asks_shopper.false))))
