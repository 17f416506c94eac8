-- `slots::keep_at` meets its contract.
-- Assumes nothing.
use mathlib.Core.Path.{sym, ap, ◌∙◌}
use Prim.Native.Nat.{◌+◌}
use borrow.Author.Tests.{lt-ltb, le-ltb}
use Rattle.slices.specs.Writing.{laid}
use Rattle.slices.proofs.Choice.{pick_yes, pick_no}
use Rattle.session_records.specs.Slots.{kept_at}
use Rattle.session_records.proofs.slots.keep_at.Goals as goal

pub returns-then-v-size : goal.returns-then-v-size
unfolding kept_at
returns-then-v-size c =
    let a = c.args in
    c.lay-then-v-size.ensures
    ∙ (ap (laid a.v.now (a.slot.at + 1)) c.lay.ensures
    ∙ sym (pick_yes _ _ _ (lt-ltb _ _ c.if-v-size.true)))

pub returns-else-v-size : goal.returns-else-v-size
unfolding kept_at
returns-else-v-size c = sym (pick_no _ _ _ (le-ltb _ _ c.if-v-size.false))
