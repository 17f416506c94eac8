-- `fill::fill_all` meets its contract. The loop's invariant: what is still to be written, written from p on, gives the buffer that is
-- wanted.
-- Assumes nothing.
use Rattle.std.proofs.Common.{refl, arith}
use Rattle.dol_wanted.specs.Wanted.{total_of}
use Rattle.dol_wanted.proofs.Entries.{fillable_some, goes_on, at_end}
use Rattle.dol_fill.specs.Filled.{filled_list}
use Rattle.dol_fill.proofs.Turn.{behind}
use Rattle.dol_fill.proofs.Filling.{first_room, rest_filled, all_filled}
use Rattle.dol_fill.proofs.fill.fill_all.Goals as goal

pub loop-rest-init : goal.loop-rest-init
unfolding total_of filled_list
loop-rest-init c =
    record { right = fillable_some c.args.list.now c.requires.0; fits = c.requires.1; long = refl; same = refl }

pub fill_first-requires : goal.fill_first-requires
fill_first-requires c =
    let l = c.loop-rest in
    first_room _ _ _ _ _ _ _ l.invariant (goes_on l.rest.now _ c.is_empty.ensures c.loop-rest-test.true)

pub overflow_add-p : goal.overflow_add-p
overflow_add-p c =
    let l = c.loop-rest in
    let room = first_room _ _ _ _ _ _ _ l.invariant (goes_on l.rest.now _ c.is_empty.ensures c.loop-rest-test.true) in
    omega arith

pub loop-rest-preserved : goal.loop-rest-preserved
loop-rest-preserved c =
    let l = c.loop-rest in
    let more = goes_on l.rest.now _ c.is_empty.ensures c.loop-rest-test.true in
    rest_filled _ _ _ _ _ _ _ l.invariant more (behind l.rest.now c.tag_size-n.ensures.0) c.size_at-p.ensures.0 c.fill_first.ensures

pub returns : goal.returns
returns c =
    let l = c.loop-rest in
    all_filled _ _ _ _ _ _ _ l.invariant (at_end l.rest.now _ c.is_empty.ensures c.loop-rest-test.false)
