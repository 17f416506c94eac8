-- `requests::first` meets its contract: the end where the list cannot be filled, else the first request, met.
-- Assumes nothing.
use mathlib.Core.Path.{◌≡◌, ap, ◌∙◌}
use Prim.Native.Nat.{◌^◌, ◌<◌}
use native.Mathlib.Omega.{arith}
use Rattle.tape_crc.proofs.Bytes.{bytes_each}
use lib.ListN.{length}
use Rattle.start_fields.specs.Reading.{reading_of}
use Rattle.session_records.specs.Slots.{told_in}
use Rattle.decide_cryptogram.specs.Cryptograms.{p1_of}
use Rattle.decide_cryptogram.specs.declared.Cryptogram.{Cryptogram}
use Rattle.answer_record.specs.Records.{after_records}
use Rattle.answer_laws.proofs.Reasons.{after_small}
use Rattle.decide_requests.specs.Requests.{first_request}
use Rattle.rulebook.specs.Situation.{list_in}
use Rattle.rulebook.specs.Phase.{first, asks, command_of}
use Rattle.rulebook.specs.Turn.{requested, turn}
use Rattle.rulebook_zeros.specs.Zeros.{unsupplied_asking}
use Rattle.quick_said.specs.Said.{found_from}
use Rattle.quick_ask.specs.Standing.{situation_in}
use Rattle.quick_ask.proofs.Knowing.{late_known}
use Rattle.quick_follow.proofs.Going.{asked_as, lacks_as, asked_stops, asked_goes, asked_inside, reason_ends, reason_goes}
use Rattle.quick_meet.proofs.Tests.{there}
use Rattle.quick_follow.proofs.requests.first.Goals as goal

pub returns-then-why-ne0 : goal.returns-then-why-ne0
unfolding requested
returns-then-why-ne0 c =
    let args = c.args in
    let t = args.tape.now in
    let bytes = bytes_each t (λ i h. omega (arith, c.type_inv.tape i)) in
    let small : args.at.zeros < 2 ^ 64 = omega (arith, c.well_formed) in
    let told = args.s.told.now in
    let s = situation_in args.s.start.now told args.s.profile args.s.tvr args.s.tsi in
    c.end.ensures
    ∙ reason_ends t bytes args.at.k args.at.zeros small s _ _
    (asks (first s (first_request (reading_of args.s.start.now) (told_in told) args.s.tvr)))
    c.complete_reason-why.ensures (after_small (told_in told)) c.if-why-ne0.true

pub returns-in-Err : goal.returns-in-Err
unfolding requested list_in command_of unsupplied_asking
returns-in-Err c =
    let args = c.args in
    let t = args.tape.now in
    let bytes = bytes_each t (λ i h. omega (arith, c.type_inv.tape i)) in
    let small : args.at.zeros < 2 ^ 64 = omega (arith, c.well_formed) in
    let told = args.s.told.now in
    let s = situation_in args.s.start.now told args.s.profile args.s.tvr args.s.tsi in
    let five : length args.s.tvr ≡ 5 = omega (arith, c.well_formed) in
    let two : length args.s.tsi ≡ 2 = omega (arith, c.well_formed) in
    let pair : length args.s.profile ≡ 2 = omega (arith, c.well_formed) in
    let request = c.first_request-request.result in
    let known = ap told_in c.at_first-known.ensures
    ∙ late_known args.s.start.now told args.s.tvr args.s.tsi (omega (arith, c.well_formed)) five two args.s.profile pair in
    let list = c.value-list.ensures in
    let due = asked_as (reading_of args.s.start.now) known list (p1_of request) in
    let lacks = c.unsupplied.ensures ∙ lacks_as (reading_of args.s.start.now) known list in
    let sum = c.sum-zeros.ensures in
    let same = ap (λ (x : Cryptogram). found_from (asks (first s x)) args.at.k args.at.zeros t) c.first_request-request.ensures
    ∙ reason_goes t bytes args.at.k args.at.zeros small s _ (after_records (told_in told)) _ c.complete_reason-why.ensures
    c.if-why-ne0.false in
    c.stop.ensures
    ∙ (asked_stops t bytes args.at.k args.at.zeros (first s request) c.cryptogram.result _ _ _ c.cryptogram.ensures due sum lacks
    _ c.in-Err.is
    ∙ same)

-- what was met stands inside the tape
pub overflow_add-at : goal.overflow_add-at
overflow_add-at c =
    let inside = asked_inside c.args.tape.now c.args.at.k c.cryptogram.result _ c.cryptogram.ensures
    (ap there c.in_default.is) in
    omega (arith, c.well_formed)

pub overflow_add-next : goal.overflow_add-next
overflow_add-next c =
    let inside = asked_inside c.args.tape.now c.args.at.k c.cryptogram.result _ c.cryptogram.ensures
    (ap there c.in_default.is) in
    omega (arith, c.well_formed)

pub returns : goal.returns
unfolding requested list_in command_of unsupplied_asking turn
returns c =
    let args = c.args in
    let t = args.tape.now in
    let bytes = bytes_each t (λ i h. omega (arith, c.type_inv.tape i)) in
    let small : args.at.zeros < 2 ^ 64 = omega (arith, c.well_formed) in
    let told = args.s.told.now in
    let s = situation_in args.s.start.now told args.s.profile args.s.tvr args.s.tsi in
    let five : length args.s.tvr ≡ 5 = omega (arith, c.well_formed) in
    let two : length args.s.tsi ≡ 2 = omega (arith, c.well_formed) in
    let pair : length args.s.profile ≡ 2 = omega (arith, c.well_formed) in
    let request = c.first_request-request.result in
    let known = ap told_in c.at_first-known.ensures
    ∙ late_known args.s.start.now told args.s.tvr args.s.tsi (omega (arith, c.well_formed)) five two args.s.profile pair in
    let list = c.value-list.ensures in
    let due = asked_as (reading_of args.s.start.now) known list (p1_of request) in
    let lacks = c.unsupplied.ensures ∙ lacks_as (reading_of args.s.start.now) known list in
    let sum = c.sum-zeros.ensures in
    let same = ap (λ (x : Cryptogram). found_from (asks (first s x)) args.at.k args.at.zeros t) c.first_request-request.ensures
    ∙ reason_goes t bytes args.at.k args.at.zeros small s _ (after_records (told_in told)) _ c.complete_reason-why.ensures
    c.if-why-ne0.false in
    c.from_first.ensures
    ∙ (asked_goes t bytes args.at.k args.at.zeros (first s request) c.cryptogram.result _ _ _ c.cryptogram.ensures due sum lacks
    _ c.payload_at-a.ensures (ap there c.in_default.is)
    ∙ same)
