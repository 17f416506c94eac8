-- `requests::all_read` meets its contract: 8 comes before the bits are set.
-- Assumes nothing.
use mathlib.Core.Path.{sym, ap, ◌∙◌}
use Prim.Native.Nat.{◌^◌, ◌<◌}
use native.Mathlib.Omega.{arith}
use Rattle.tape_crc.proofs.Bytes.{bytes_each}
use borrow.Author.Tests.{eq-eqb, ne_eqb}
use Rattle.slices.specs.Writing.{zeros}
use Rattle.slices.proofs.Choice.{pick_yes, pick_no}
use Rattle.rulebook.specs.Phase.{Phase}
use Rattle.rulebook.specs.Turn.{managed, verifying, all_read}
use Rattle.quick_said.specs.Said.{found_from}
use Rattle.quick_ask.specs.Standing.{situation_in}
use Rattle.quick_follow.proofs.Going.{ended_found}
use Rattle.quick_follow.proofs.requests.all_read.Goals as goal

pub returns-then-complete_reason-eq-FOR_MISSING : goal.returns-then-complete_reason-eq-FOR_MISSING
unfolding all_read zeros
returns-then-complete_reason-eq-FOR_MISSING c =
    let args = c.args in
    let t = args.tape.now in
    let bytes = bytes_each t (λ i h. omega (arith, c.type_inv.tape i)) in
    let small : args.at.zeros < 2 ^ 64 = omega (arith, c.well_formed) in
    let s = situation_in args.start.now args.told.now args.profile (zeros 5) (zeros 2) in
    c.end.ensures
    ∙ (ended_found t bytes args.at.k args.at.zeros small s 8
    ∙ sym
    (ap (λ (p : Phase). found_from p args.at.k args.at.zeros t)
    (pick_yes _ _ _ (eq-eqb _ 8 (sym c.complete_reason.ensures ∙ c.if-complete_reason-eq-FOR_MISSING.true)))))

pub returns : goal.returns
unfolding all_read managed zeros
returns c =
    let args = c.args in
    let t = args.tape.now in
    c.verify.ensures
    ∙ ((λ i. found_from (verifying (situation_in args.start.now args.told.now args.profile (c.tvr_after_records-tvr.ensures i)
    (c.tsi_after_records-tsi.ensures i))) args.at.k args.at.zeros t)
    ∙ sym
    (ap (λ (p : Phase). found_from p args.at.k args.at.zeros t)
    (pick_no _ _ _ (ne_eqb _ 8 (λ e. c.if-complete_reason-eq-FOR_MISSING.false (c.complete_reason.ensures ∙ e))))))
