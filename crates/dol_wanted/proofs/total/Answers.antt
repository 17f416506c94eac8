-- `dol_wanted::total` meets its contract. The loop's invariant: the count so far, counted on over the rest, is the list's.
-- Assumes nothing.
use mathlib.Core.Path.{◌≡◌, sym, ap, ◌∙◌}
use mathlib.Core.Bool.{true}
use mathlib.Core.List.{List}
use Prim.Native.Nat.{ℕ, ◌+◌, ◌≤◌}
use lib.ListN.{length, drop, length-take, length-drop}
use Rattle.tlv_head.specs.Head.{tag_size}
use Rattle.slices.proofs.Cutting.{rest_part, none_left}
use Rattle.dol_wanted.specs.Wanted.{asks, entries_of}
use Rattle.dol_wanted.proofs.Entries.{counted_on, tally_counted, turn_counted, turn_malformed}
use Rattle.dol_wanted.proofs.Entries.{counted_over, counted_end, entries_empty, entry_fits, goes_on, at_end}
use native.Mathlib.Omega.{arith}
use Rattle.dol_wanted.proofs.total.Goals as goal

pub loop-rest-init : goal.loop-rest-init
loop-rest-init c = (omega arith, sym (tally_counted c.args.list.now))

pub returns-then-sum-gt-MOST : goal.returns-then-sum-gt-MOST
returns-then-sum-gt-MOST c =
    let entry : asks c.loop-rest.rest.now ≡ true =
    sym c.is_entry.ensures ∙ c.if-is_entry.true
    in
    let l = c.loop-rest in
    let r = l.rest.now in
    let s = c.size_at-sum in (
      sym
          (sym l.invariant.1
          ∙ (turn_counted r (goes_on r _ c.is_empty.ensures c.loop-rest-test.true) l.sum (entry)
          ∙ (ap (λ (n : ℕ). counted_on (l.sum + n) (entries_of (drop (tag_size r + 1) r))) (sym s.ensures.0)
          ∙ counted_over (l.sum + s.result) (entries_of (drop (tag_size r + 1) r)) (omega arith)))),
      omega arith,
    )

pub slice_bounds-rest-count : goal.slice_bounds-rest-count
slice_bounds-rest-count c =
    let entry : asks c.loop-rest.rest.now ≡ true =
    sym c.is_entry.ensures ∙ c.if-is_entry.true
    in
    let inside : c.tag_size-n.result + 1 ≤ length c.loop-rest.rest.now =
    let r = c.loop-rest.rest.now in
    let f = entry_fits r (entry) in
    let t = c.tag_size-n.ensures.0 in
    omega arith
    in
    inside

pub slice_bounds-rest-start : goal.slice_bounds-rest-start
slice_bounds-rest-start c =
    let entry : asks c.loop-rest.rest.now ≡ true =
    sym c.is_entry.ensures ∙ c.if-is_entry.true
    in
    let inside : c.tag_size-n.result + 1 ≤ length c.loop-rest.rest.now =
    let r = c.loop-rest.rest.now in
    let f = entry_fits r (entry) in
    let t = c.tag_size-n.ensures.0 in
    omega arith
    in
    inside

pub loop-rest-smaller : goal.loop-rest-smaller
loop-rest-smaller c =
    let entry : asks c.loop-rest.rest.now ≡ true =
    sym c.is_entry.ensures ∙ c.if-is_entry.true
    in
    let inside : c.tag_size-n.result + 1 ≤ length c.loop-rest.rest.now =
    let r = c.loop-rest.rest.now in
    let f = entry_fits r (entry) in
    let t = c.tag_size-n.ensures.0 in
    omega arith
    in
    let r = c.loop-rest.rest.now in
    let n = c.tag_size-n.result + 1 in
    let h = inside in
    rw (length-take, length-drop) (omega arith)

pub loop-rest-preserved : goal.loop-rest-preserved
loop-rest-preserved c =
    let entry : asks c.loop-rest.rest.now ≡ true =
    sym c.is_entry.ensures ∙ c.if-is_entry.true
    in
    let l = c.loop-rest in
    let r = l.rest.now in
    let s = c.size_at-sum in
    let n = c.tag_size-n.result + 1 in
    let skip : n ≡ tag_size r + 1 = ap (λ (k : ℕ). k + 1) c.tag_size-n.ensures.0 in (
      omega arith,
      ap (λ (x : List ℕ). counted_on (l.sum + s.result) (entries_of x)) (rest_part r n ∙ ap (λ (k : ℕ). drop k r) skip)
          ∙ (ap (λ (k : ℕ). counted_on (l.sum + k) (entries_of (drop (tag_size r + 1) r))) s.ensures.0
          ∙ (sym (turn_counted r (goes_on r _ c.is_empty.ensures c.loop-rest-test.true) l.sum (entry)) ∙ l.invariant.1)),
    )

pub returns-else-is_entry : goal.returns-else-is_entry
returns-else-is_entry c =
    let l = c.loop-rest in (
      sym (sym l.invariant.1 ∙ turn_malformed l.rest.now (goes_on l.rest.now _ c.is_empty.ensures c.loop-rest-test.true) l.sum
          (sym c.is_entry.ensures ∙ c.if-is_entry.false)),
      omega arith,
    )

pub returns : goal.returns
returns c =
    let l = c.loop-rest in (
      sym
          (sym l.invariant.1
          ∙ (ap (λ (x : List ℕ). counted_on l.sum (entries_of x)) (none_left l.rest.now (at_end l.rest.now _ c.is_empty.ensures c.loop-rest-test.false))
          ∙ (ap (counted_on l.sum) entries_empty ∙ counted_end l.sum l.invariant.0))),
      omega arith,
    )
