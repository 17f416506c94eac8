-- `event::on_start` meets its contract: a START of 207 bytes begins a search; any other is today's.
-- Assumes nothing.
use mathlib.Core.Path.{sym, ◌∙◌}
use borrow.Author.Tests.{eq-eqb, ne_eqb}
use Rattle.slices.proofs.Choice.{pick_yes, pick_no}
use Rattle.start_choosing.specs.Start.{is_listing}
use Rattle.session_choosing.specs.Events.{start_later}
use Rattle.session_choosing.proofs.Turning.{with_list_lem}
use Rattle.session_choosing.proofs.event.on_start.Goals as goal

pub on_listing-requires : goal.on_listing-requires
unfolding is_listing
on_listing-requires c = eq-eqb _ _ c.if-p-eq-LISTING.true

pub returns-then-p-eq-LISTING : goal.returns-then-p-eq-LISTING
unfolding start_later is_listing
returns-then-p-eq-LISTING c =
    c.on_listing.ensures ∙ sym (pick_yes _ _ _ (eq-eqb _ _ c.if-p-eq-LISTING.true))

pub returns : goal.returns
unfolding start_later is_listing
returns c =
    with_list_lem _ _ _ c.step.ensures ∙ sym (pick_no _ _ _ (ne_eqb _ _ c.if-p-eq-LISTING.false))
