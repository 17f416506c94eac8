-- `requests::results` meets its contract: as many results as are wanted set their bits and lead to the first request.
-- Assumes nothing.
use mathlib.Core.Path.{sym, ap, ◌∙◌}
use Prim.Native.Nat.{ℕ, ◌+◌, ◌^◌, ◌<◌}
use native.Mathlib.Omega.{arith}
use Rattle.tape_crc.proofs.Bytes.{bytes_each}
use mathlib.Core.List.{List}
use borrow.Author.Tests.{not-true, not-false}
use Rattle.start_fields.specs.Reading.{reading_of}
use Rattle.session_records.specs.Slots.{told_in}
use Rattle.answer_record.specs.Records.{after_records}
use Rattle.words.specs.Words.{word_kind, word_allowed}
use Rattle.words.specs.declared.Word.TheVariants.{Results}
use Rattle.decide_verification.specs.Verification.{tvr_after_results}
use Rattle.rulebook.specs.Phase.{says, due_kind}
use Rattle.rulebook.specs.Turn.{wanted_in, allowed, requested, verified_by, after}
use Rattle.quick_said.specs.Said.{found_from}
use Rattle.quick_ask.specs.Standing.{situation_in}
use Rattle.quick_follow.proofs.Going.{heard_stops, heard_fails, heard_goes, heard_inside}
use mathlib.Core.Bool.{not}
use Rattle.quick_meet.proofs.Tests.{there}
use Rattle.quick_follow.proofs.requests.results.Goals as goal

pub returns-in-Err : goal.returns-in-Err
unfolding due_kind word_kind
returns-in-Err c =
    let args = c.args in
    let t = args.tape.now in
    let bytes = bytes_each t (λ i h. omega (arith, c.type_inv.tape i)) in
    let small : args.at.zeros < 2 ^ 64 = omega (arith, c.well_formed) in
    let told = args.s.told.now in
    let s = situation_in args.s.start.now told args.s.profile args.s.tvr args.s.tsi in
    c.stop.ensures
    ∙ heard_stops t bytes args.at.k args.at.zeros small (says Results s) c.word.result c.word.ensures
    _ c.in-Err.is

pub returns-then-not-is_allowed : goal.returns-then-not-is_allowed
unfolding due_kind word_kind allowed wanted_in
returns-then-not-is_allowed c =
    let args = c.args in
    let t = args.tape.now in
    let bytes = bytes_each t (λ i h. omega (arith, c.type_inv.tape i)) in
    let small : args.at.zeros < 2 ^ 64 = omega (arith, c.well_formed) in
    let told = args.s.told.now in
    let s = situation_in args.s.start.now told args.s.profile args.s.tvr args.s.tsi in
    let may = c.is_allowed.ensures ∙ (λ i. word_allowed Results (c.wanted.ensures i) (c.payload_at-p.ensures i)) in
    c.fail.ensures
    ∙ heard_fails t bytes args.at.k args.at.zeros small (says Results s) c.word.result c.word.ensures
    (ap there c.in_default.is) (sym may ∙ not-true _ (ap not c.if-not-is_allowed.true))

pub overflow_add-next : goal.overflow_add-next
overflow_add-next c =
    let inside = heard_inside c.args.tape.now c.args.at.k _ c.word.result c.word.ensures
    (ap there c.in_default.is) in
    omega (arith, c.well_formed)

pub returns : goal.returns
unfolding due_kind word_kind allowed wanted_in after verified_by
returns c =
    let args = c.args in
    let t = args.tape.now in
    let bytes = bytes_each t (λ i h. omega (arith, c.type_inv.tape i)) in
    let small : args.at.zeros < 2 ^ 64 = omega (arith, c.well_formed) in
    let told = args.s.told.now in
    let s = situation_in args.s.start.now told args.s.profile args.s.tvr args.s.tsi in
    let may = c.is_allowed.ensures ∙ (λ i. word_allowed Results (c.wanted.ensures i) (c.payload_at-p.ensures i)) in
    let tvr = c.tvr_after_results-tvr.ensures
    ∙ ap (λ (x : List ℕ). tvr_after_results (reading_of args.s.start.now) (told_in told) x args.s.tvr) c.payload_at-p.ensures in
    c.first.ensures
    ∙ ((λ i. found_from (requested (after_records (told_in told))
    (situation_in args.s.start.now told args.s.profile (tvr i) (c.tsi_after_results-tsi.ensures i))) (args.at.k + 1) args.at.zeros t)
    ∙ heard_goes t bytes args.at.k args.at.zeros small (says Results s) c.word.result c.word.ensures
    (ap there c.in_default.is) (sym may ∙ not-false _ (ap not c.if-not-is_allowed.false)))
