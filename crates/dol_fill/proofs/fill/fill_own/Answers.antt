-- `fill::fill_own` meets its contract: no bytes are no value, and the room is all zeros; any others are shaped.
-- Assumes nothing.
use Rattle.std.proofs.Common.{length, sym, ap, ◌∙◌, arith}
use Rattle.slices.specs.Writing.{zeros}
use Rattle.slices.proofs.Choice.{there, not_there}
use Rattle.dol_values.specs.Known.{with_format}
use Rattle.dol_fill.specs.Filled.{entry_bytes}
use Rattle.dol_fill.proofs.Filling.{shaped_entry, blank_entry}
use Rattle.dol_fill.proofs.fill.fill_own.Goals as goal

pub returns-then-v-eq0 : goal.returns-then-v-eq0
unfolding zeros
returns-then-v-eq0 c =
    let a = c.args in
    let n = length a.part.now in
    c.blank.ensures
    ∙ sym (ap (λ o. entry_bytes n (with_format a.format o)) (not_there a.v.now c.if-v-eq0.true) ∙ blank_entry a.format n)

pub returns-else-v-eq0 : goal.returns-else-v-eq0
returns-else-v-eq0 c =
    let a = c.args in
    let v = a.v.now in
    let n = length a.part.now in
    c.shape.ensures
    ∙ sym (ap (λ o. entry_bytes n (with_format a.format o)) (there v (omega arith)) ∙ shaped_entry a.format n v)
