-- `slots::keep` meets its contract: the value goes to its name's slot.
-- Assumes nothing.
use mathlib.Core.Path.{ap, ◌∙◌}
use Rattle.session_records.specs.Slots.{kept_at, kept_in}
use Rattle.session_records.proofs.slots.keep.Goals as goal

pub keep_at-requires : goal.keep_at-requires
keep_at-requires c = (c.slot_of.ensures.1, c.slot_of.ensures.2)

pub returns : goal.returns
unfolding kept_in
returns c =
    let a = c.args in
    c.keep_at.ensures ∙ ap (λ x. kept_at x a.v.now a.d.now) c.slot_of.ensures.0
