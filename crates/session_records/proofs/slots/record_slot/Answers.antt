-- `slots::record_slot` meets its contract: the slot among all names.
-- Assumes nothing.
use mathlib.Core.Path.{ap}
use native.Mathlib.Omega.{arith}
use Rattle.session_records.specs.Slots.{record_slot}
use Rattle.session_records.proofs.Apart.{told_fits, within_told, small_told}
use Rattle.session_records.proofs.slots.record_slot.Goals as goal

pub slot_in-requires : goal.slot_in-requires
slot_in-requires c = told_fits

pub returns : goal.returns
unfolding record_slot
returns c =
    let e = c.slot_in.ensures in
    let tag = c.args.tag in
    let w = within_told tag in
    let s = small_told tag in
    (e, omega (arith, ap (λ x. x.at) e, ap (λ x. x.size) e, w), omega (arith, ap (λ x. x.size) e, s))
