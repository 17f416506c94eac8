-- `listing::next_aid` meets its contract.
-- Assumes nothing.
use mathlib.Core.Path.{sym, ap, ◌∙◌}
use mathlib.Core.Bool.{false}
use Prim.Native.Nat.{◌+◌}
use lib.Dec.{ltb}
use borrow.Author.Tests.{lt-ltb, le-ltb}
use Rattle.slices.proofs.Choice.{pick_yes, pick_no}
use Rattle.select_list.specs.Kept.{list_in}
use Rattle.select_search.specs.Listing.{next_aid}
use Rattle.select_search.specs.Turns.{turn_of}
use Rattle.select_search.specs.declared.Step.TheVariants.{Listed}
use Rattle.select_search.proofs.Turning.{goes_any}
use Rattle.select_search.proofs.listing.next_aid.Goals as goal

pub returns-then-k-listed_count : goal.returns-then-k-listed_count
unfolding next_aid
returns-then-k-listed_count c =
    let a = c.args in
    c.go.ensures
    ∙ (goes_any a.h.stand (Listed (a.aid + 1) false) (list_in a.list.now)
    ∙ sym (ap turn_of (pick_yes _ _ _ (ap (ltb (a.aid + 1)) (sym c.listed_count.ensures.0) ∙ lt-ltb _ _ c.if-k-listed_count.true))))

pub returns : goal.returns
unfolding next_aid
returns c =
    let a = c.args in
    c.final_turn.ensures
    ∙ sym (ap turn_of (pick_no _ _ _ (ap (ltb (a.aid + 1)) (sym c.listed_count.ensures.0) ∙ le-ltb _ _ c.if-k-listed_count.false)))
