-- `slots::slot_of` meets its contract: the session's own slots, and else the slot among what records name.
-- Assumes nothing.
use mathlib.Core.Path.{sym, ap, ◌∙◌}
use native.Mathlib.Omega.{arith}
use borrow.Author.Tests.{ne_eqb}
use Rattle.slices.specs.Choice.{pick}
use Rattle.slices.proofs.Choice.{pick_no}
use Rattle.slices.specs.Tables.{beside}
use Rattle.session_records.specs.Slots.{placed, record_slot, slot_for}
use Rattle.session_records.proofs.slots.slot_of.Goals as goal

pub returns-in-149 : goal.returns-in-149
unfolding slot_for record_slot placed beside pick
returns-in-149 c = (sym (ap slot_for c.in-149.is), omega arith, omega arith)

pub returns-in-155 : goal.returns-in-155
unfolding slot_for record_slot placed beside pick
returns-in-155 c = (sym (ap slot_for c.in-155.is), omega arith, omega arith)

pub returns-in-138 : goal.returns-in-138
unfolding slot_for record_slot placed beside pick
returns-in-138 c = (sym (ap slot_for c.in-138.is), omega arith, omega arith)

pub returns-in-130 : goal.returns-in-130
unfolding slot_for record_slot placed beside pick
returns-in-130 c = (sym (ap slot_for c.in-130.is), omega arith, omega arith)

pub returns-in_default : goal.returns-in_default
unfolding slot_for record_slot placed beside pick
returns-in_default c =
    let e = c.record_slot.ensures in
    let tag = c.args.tag in (
      e.0
          ∙ sym (pick_no _ _ _ (ne_eqb tag 0x95 c.in_default.in_default-own.rest.0.0.0.1)
          ∙ (pick_no _ _ _ (ne_eqb tag 0x9B c.in_default.in_default-own.rest.0.0.1)
          ∙ (pick_no _ _ _ (ne_eqb tag 0x8A c.in_default.in_default-own.rest.0.1)
          ∙ pick_no _ _ _ (ne_eqb tag 0x82 c.in_default.in_default-own.rest.1)))),
      e.1,
      e.2,
    )
