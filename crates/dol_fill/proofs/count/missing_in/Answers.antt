-- `count::missing_in` meets its contract. The loop's invariant: what was counted and what is still to be counted come to the count of the
-- list; and no more is counted than bytes were passed.
-- Assumes nothing.
use Rattle.std.proofs.Common.{zero-add, arith}
use Rattle.dol_wanted.proofs.Entries.{fillable_some, goes_on, at_end}
use Rattle.dol_fill.proofs.Missing.{rest_counted, all_counted}
use Rattle.dol_fill.proofs.Turn.{behind}
use Rattle.dol_fill.proofs.count.missing_in.Goals as goal

pub loop-rest-init : goal.loop-rest-init
loop-rest-init c =
    record { right = fillable_some c.args.list.now c.requires; few = omega arith; same = zero-add _ }

pub loop-rest-preserved : goal.loop-rest-preserved
loop-rest-preserved c =
    let l = c.loop-rest in
    let more = goes_on l.rest.now _ c.is_empty.ensures c.loop-rest-test.true in
    rest_counted _ _ _ _ _ _ l.invariant more (behind l.rest.now c.tag_size-n.ensures.0) c.missing-count.ensures.0

pub returns : goal.returns
returns c =
    let l = c.loop-rest in
    all_counted _ _ _ _ _ _ l.invariant (at_end l.rest.now _ c.is_empty.ensures c.loop-rest-test.false)
