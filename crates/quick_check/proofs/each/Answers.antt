-- `quick_check::each` meets its contract. The loop's invariant: with the tapes that are left, each buffer becomes what it becomes with all
-- of them. Assumes nothing.
use mathlib.Core.Path.{◌≡◌, sym, ap, ◌∙◌}
use Prim.Native.Nat.{◌+◌}
use native.Mathlib.Omega.{arith}
use lib.ListN.{length, get_or, length-set}
use Rattle.tape_feed.specs.declared.Damage.{Damage}
use Rattle.quick_check.specs.Damages.{damage_in, tape_in}
use Rattle.quick_check.proofs.Many.{end_within, told, told_next, told_all}
use Rattle.quick_check.proofs.each.Invariants.{place, code}
use Rattle.quick_check.proofs.each.Goals as goal

pub loop-i-preserved : goal.loop-i-preserved
unfolding tape_in
loop-i-preserved c =
    let l = c.loop-i in
    let args = c.args in
    let bytes = args.bytes.now in
    let ends = args.ends.now in
    let d = c.of_tape-d.result in
    let found : d ≡ damage_in (tape_in l.from c.end_of-to.result bytes) = c.of_tape-d.ensures in (
      omega (arith, c.end_of-to.ensures, end_within (length bytes) l.from (get_or ends l.i 0) l.invariant.0),
      ap length c.store.ensures ∙ (length-set l.places l.i d.place ∙ l.invariant.1),
      ap length c.store-in-loop-i.ensures ∙ (length-set l.codes l.i d.code ∙ l.invariant.2),
      ap (told place bytes ends c.end_of-to.result (l.i + 1)) c.store.ensures
          ∙ (told_next place bytes ends l.from l.i c.end_of-to.result d.place l.places (omega arith) c.end_of-to.ensures
          (ap (λ (e : Damage). e.place) found)
          ∙ l.invariant.3),
      ap (told code bytes ends c.end_of-to.result (l.i + 1)) c.store-in-loop-i.ensures
          ∙ (told_next code bytes ends l.from l.i c.end_of-to.result d.code l.codes (omega arith) c.end_of-to.ensures
          (ap (λ (e : Damage). e.code) found)
          ∙ l.invariant.4),
    )

pub returns : goal.returns
returns c =
    let l = c.loop-i in
    let args = c.args in
    let bytes = args.bytes.now in
    let ends = args.ends.now in (
      sym (told_all place bytes ends l.from l.i l.places (omega arith)) ∙ l.invariant.3,
      sym (told_all code bytes ends l.from l.i l.codes (omega arith)) ∙ l.invariant.4,
    )
