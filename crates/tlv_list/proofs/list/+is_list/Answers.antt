-- `list::is_list` meets its contract: what is found at each place, and what the check says of the bytes from there on.
-- Assumes nothing.
use mathlib.Core.Path.{refl, sym, ◌∙◌}
use Prim.Native.Nat.{zero-le}
use native.Mathlib.Omega.{arith}
use lib.ListN.{length-take}
use Rattle.tlv_list.specs.Objects.{between}
use Rattle.tlv_list.proofs.Reading.{next_ahead, next_end}
use Rattle.tlv_list.proofs.ListCheck.{check_end, check_broken, check_plain, check_inside, check_outside}
use Rattle.tlv_list.proofs.list.+is_list.Goals as goal
use Rattle.tlv_list.proofs.list.+is_list.Goals.{else-is_constructed-via-then-is_constructed+else-not-is_list, else-is_constructed-via-else-is_constructed}

pub loop-at-init : goal.loop-at-init
loop-at-init t c = (zero-le, refl)

pub returns-in-End : goal.returns-in-End
returns-in-End t c =
    sym (sym c.loop-at.invariant.1 ∙ check_end c.args.s.now c.loop-at.at (sym c.next.ensures ∙ c.in-End.is))

pub returns-in-Broken : goal.returns-in-Broken
returns-in-Broken t c =
    sym (sym c.loop-at.invariant.1 ∙ check_broken c.args.s.now c.loop-at.at (sym c.next.ensures ∙ c.in-Broken.is))

pub slice_bounds-is_list-count : goal.slice_bounds-is_list-count
slice_bounds-is_list-count t c =
    let ahead = next_ahead c.args.s.now c.loop-at.at _ _ _ (sym c.next.ensures ∙ c.in-Member.is) in
    omega arith

pub slice_bounds-is_list-start : goal.slice_bounds-is_list-start
slice_bounds-is_list-start t c =
    let ahead = next_ahead c.args.s.now c.loop-at.at _ _ _ (sym c.next.ensures ∙ c.in-Member.is) in
    omega arith

pub slice_bounds-is_list-end : goal.slice_bounds-is_list-end
slice_bounds-is_list-end t c =
    let ahead = next_ahead c.args.s.now c.loop-at.at _ _ _ (sym c.next.ensures ∙ c.in-Member.is) in
    omega arith

pub is_list-requires : goal.is_list-requires
is_list-requires t c =
    let ahead = next_ahead c.args.s.now c.loop-at.at _ _ _ (sym c.next.ensures ∙ c.in-Member.is) in
    (rw length-take (omega arith), tt)

pub returns-then-not-is_list : goal.returns-then-not-is_list
unfolding between
returns-then-not-is_list t c =
    let e = sym c.next.ensures ∙ c.in-Member.is in
    sym
    (sym c.loop-at.invariant.1
    ∙ check_outside _ _ _ _ _ e (sym c.is_constructed.ensures ∙ c.if-is_constructed.true) (sym c.is_list.ensures ∙ c.if-not-is_list.true))

pub loop-at-smaller : goal.loop-at-smaller
loop-at-smaller t c =
    let ahead = next_ahead c.args.s.now c.loop-at.at _ _ _ (sym c.next.ensures ∙ c.in-Member.is) in
    omega arith

pub loop-at-preserved : goal.loop-at-preserved
unfolding between
loop-at-preserved t c =
    let e = sym c.next.ensures ∙ c.in-Member.is in
    let ahead = next_ahead c.args.s.now c.loop-at.at _ _ _ e in
    elim c.else-is_constructed.branch [
      | else-is_constructed-via-then-is_constructed+else-not-is_list w ↦ (
        ahead.fits,
        sym (check_inside _ _ _ _ _ e (sym c.is_constructed.ensures ∙ w.if-is_constructed.true)
            (sym w.is_list.ensures ∙ w.if-not-is_list.false))
            ∙ c.loop-at.invariant.1,
      )
      | else-is_constructed-via-else-is_constructed w ↦ (
        ahead.fits,
        sym (check_plain _ _ _ _ _ e (sym c.is_constructed.ensures ∙ w.if-is_constructed.false)) ∙ c.loop-at.invariant.1,
      )
    ]

pub returns : goal.returns
returns t c =
    sym (sym c.loop-at.invariant.1 ∙ check_end c.args.s.now c.loop-at.at (next_end c.args.s.now c.loop-at.at c.loop-at-test.false))
