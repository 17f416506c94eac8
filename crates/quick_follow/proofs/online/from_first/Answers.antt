-- `online::from_first` meets its contract: a bad answer ends the session, a good one sets a bit and goes on by its type.
-- Assumes nothing.
use mathlib.Core.Path.{sym, ◌∙◌}
use Prim.Native.Nat.{◌^◌, ◌<◌}
use native.Mathlib.Omega.{arith}
use Rattle.tape_crc.proofs.Bytes.{bytes_each}
use Rattle.decide_cryptogram.specs.Cryptograms.{allowed_by}
use Rattle.decide_cryptogram.specs.declared.Request.TheVariants.{First}
use Rattle.answer_cryptogram.specs.Cryptogram.{cryptogram_reason, cryptogram_of}
use Rattle.answer_cryptogram.proofs.Good.{cryptogram_good}
use Rattle.answer_laws.proofs.Reasons.{cryptogram_small}
use Rattle.rulebook.specs.Turn.{answered, by_first, first_answered}
use Rattle.quick_said.specs.Said.{found_from}
use Rattle.quick_ask.specs.Standing.{situation_in}
use Rattle.quick_follow.proofs.Going.{reason_ends, reason_goes}
use Rattle.quick_follow.proofs.online.from_first.Goals as goal

pub returns-then-why-ne0 : goal.returns-then-why-ne0
unfolding first_answered
returns-then-why-ne0 c =
    let args = c.args in
    let t = args.tape.now in
    let bytes = bytes_each t (λ i h. omega (arith, c.type_inv.tape i)) in
    let small : args.at.zeros < 2 ^ 64 = omega (arith, c.well_formed) in
    let s = situation_in args.s.start.now args.s.told.now args.s.profile args.s.tvr args.s.tsi in
    c.end.ensures
    ∙ reason_ends t bytes args.at.k args.at.zeros small s _ _ (by_first (cryptogram_of args.a.now) (answered s))
    c.cryptogram_reason-why.ensures (cryptogram_small (allowed_by (First args.request)) args.a.now) c.if-why-ne0.true

pub returns : goal.returns
unfolding first_answered answered
returns c =
    let args = c.args in
    let t = args.tape.now in
    let bytes = bytes_each t (λ i h. omega (arith, c.type_inv.tape i)) in
    let small : args.at.zeros < 2 ^ 64 = omega (arith, c.well_formed) in
    let s = situation_in args.s.start.now args.s.told.now args.s.profile args.s.tvr args.s.tsi in
    let allowed = allowed_by (First args.request) in
    let given =
    c.cryptogram_read.ensures
    ∙ cryptogram_good allowed args.a.now (sym c.cryptogram_reason-why.ensures ∙ c.if-why-ne0.false)
    in
    c.by_first.ensures
    ∙ ((λ i. found_from (by_first (given i)
    (situation_in args.s.start.now args.s.told.now args.s.profile args.s.tvr (c.tsi_after_first_answer-tsi.ensures i)))
    args.at.k args.at.zeros t)
    ∙ reason_goes t bytes args.at.k args.at.zeros small s _ (cryptogram_reason allowed args.a.now) _
    c.cryptogram_reason-why.ensures c.if-why-ne0.false)
