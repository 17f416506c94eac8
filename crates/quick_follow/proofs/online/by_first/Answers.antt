-- `online::by_first` meets its contract: each arm is the definition's at that cryptogram.
-- Assumes nothing.
use mathlib.Core.Path.{sym, ap, ◌∙◌}
use Prim.Native.Nat.{◌^◌, ◌<◌}
use native.Mathlib.Omega.{arith}
use Rattle.tape_crc.proofs.Bytes.{bytes_each}
use Rattle.decide_cryptogram.specs.Cryptograms.{Given}
use Rattle.std.specs.Prelude.{Some}
use Rattle.numbers.specs.Tables.{approved, declined}
use Rattle.rulebook.specs.Turn.{by_first}
use Rattle.quick_said.specs.Said.{found_from}
use Rattle.quick_ask.specs.Standing.{situation_in}
use Rattle.quick_follow.proofs.Going.{decided_found}
use Rattle.quick_follow.proofs.online.by_first.Goals as goal

pub returns-in-Tc : goal.returns-in-Tc
unfolding by_first
returns-in-Tc c =
    let e = c.in-Some.is ∙ ap Some c.in-Tc.is in
    let args = c.args in
    let t = args.tape.now in
    let bytes = bytes_each t (λ i h. omega (arith, c.type_inv.tape i)) in
    let small : args.at.zeros < 2 ^ 64 = omega (arith, c.well_formed) in
    let s = situation_in args.s.start.now args.s.told.now args.s.profile args.s.tvr args.s.tsi in
    c.decided.ensures
    ∙ (decided_found t bytes args.at.k args.at.zeros small s approved
    ∙ sym (ap (λ (g : Given). found_from (by_first g s) args.at.k args.at.zeros t) e))

pub returns-in-Aac : goal.returns-in-Aac
unfolding by_first
returns-in-Aac c =
    let e = c.in-Some.is ∙ ap Some c.in-Aac.is in
    let args = c.args in
    let t = args.tape.now in
    let bytes = bytes_each t (λ i h. omega (arith, c.type_inv.tape i)) in
    let small : args.at.zeros < 2 ^ 64 = omega (arith, c.well_formed) in
    let s = situation_in args.s.start.now args.s.told.now args.s.profile args.s.tvr args.s.tsi in
    c.decided-in-Aac.ensures
    ∙ (decided_found t bytes args.at.k args.at.zeros small s declined
    ∙ sym (ap (λ (g : Given). found_from (by_first g s) args.at.k args.at.zeros t) e))

pub returns-in-Arqc : goal.returns-in-Arqc
unfolding by_first
returns-in-Arqc c =
    let e = c.in-Some.is ∙ ap Some c.in-Arqc.is in
    let args = c.args in
    let s = situation_in args.s.start.now args.s.told.now args.s.profile args.s.tvr args.s.tsi in
    c.online.ensures ∙ sym (ap (λ (g : Given). found_from (by_first g s) args.at.k args.at.zeros args.tape.now) e)

pub returns-in-None : goal.returns-in-None
unfolding by_first
returns-in-None c =
    let args = c.args in
    let t = args.tape.now in
    let bytes = bytes_each t (λ i h. omega (arith, c.type_inv.tape i)) in
    let small : args.at.zeros < 2 ^ 64 = omega (arith, c.well_formed) in
    let s = situation_in args.s.start.now args.s.told.now args.s.profile args.s.tvr args.s.tsi in
    c.decided-in-None.ensures
    ∙ (decided_found t bytes args.at.k args.at.zeros small s declined
    ∙ sym (ap (λ (g : Given). found_from (by_first g s) args.at.k args.at.zeros t) c.in-None.is))
