-- `joining::place_for` meets its contract. The loop's invariant: so many do not stand behind it, and the rest decides.
-- Assumes nothing.
use mathlib.Core.List.{[]}
use native.Mathlib.Omega.{arith}
use Rattle.select_list.specs.Kept.{candidate_in, list_in, candidate_at}
use Rattle.select_list.proofs.Placing.{place_on, place_here, place_past}
use Rattle.select_list.proofs.joining.place_for.Goals as goal

pub loop-i-preserved : goal.loop-i-preserved
unfolding candidate_at
loop-i-preserved c =
    let l = c.loop-i in
    let a = c.args in
    let m = list_in a.list.now in
    let found = place_on a.standing m (candidate_in []) l.i (omega arith)
    (let r = c.standing_at.ensures.0 in omega (arith, r, c.if-standing-standing_at.false)) in
    let on = l.invariant in
    omega (arith, on, found)

pub returns-then-standing-standing_at : goal.returns-then-standing-standing_at
unfolding candidate_at
returns-then-standing-standing_at c =
    let l = c.loop-i in
    let a = c.args in
    let m = list_in a.list.now in
    let found = place_here a.standing m (candidate_in []) l.i (omega arith)
    (let r = c.standing_at.ensures.0 in omega (arith, r, c.if-standing-standing_at.true)) in
    let on = l.invariant in
    (omega (arith, on, found), omega (arith, c.count-n.ensures.1))

pub returns : goal.returns
returns c =
    let l = c.loop-i in
    let a = c.args in
    let m = list_in a.list.now in
    let found = place_past a.standing m (candidate_in []) l.i (omega arith) in
    let on = l.invariant in
    (omega (arith, on, found), omega (arith, c.count-n.ensures.1))
