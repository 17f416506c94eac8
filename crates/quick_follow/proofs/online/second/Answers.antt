-- `online::second` meets its contract: the end where the list cannot be filled, else the second request, met.
-- Assumes nothing.
use mathlib.Core.Path.{◌≡◌, refl, sym, ap, ◌∙◌}
use Prim.Native.Nat.{ℕ, ◌^◌, ◌<◌}
use native.Mathlib.Omega.{arith}
use mathlib.Core.List.{List}
use lib.ListN.{length}
use Rattle.tape_crc.proofs.Bytes.{bytes_each}
use borrow.Author.Tests.{not-true, not-false}
use Rattle.slices.proofs.Choice.{pick_yes, pick_no}
use Rattle.start_fields.specs.Reading.{reading_of}
use Rattle.session_records.specs.Slots.{told_in}
use Rattle.dol_wanted.specs.Wanted.{fillable}
use Rattle.decide_cryptogram.specs.Cryptograms.{p1_of}
use Rattle.decide_requests.specs.Replies.{response_code}
use Rattle.decide_requests.specs.declared.reply.HostReply.{HostReply}
use Rattle.decide_requests.specs.declared.reply.HostReply.TheVariants.{Approve, Decline, Unable}
use Rattle.decide_cryptogram.specs.declared.Cryptogram.{Cryptogram}
use Rattle.decide_cryptogram.specs.declared.Cryptogram.TheVariants.{Aac, Tc, Arqc}
use Rattle.rulebook.specs.Situation.{list_in}
use Rattle.rulebook.specs.Phase.{second, Phase, asks, command_of}
use Rattle.rulebook.specs.Turn.{replied, turn}
use Rattle.rulebook_zeros.specs.Zeros.{unsupplied_asking}
use Rattle.quick_said.specs.Said.{found_from}
use Rattle.quick_ask.specs.Standing.{situation_in}
use Rattle.quick_ask.proofs.Knowing.{second_known}
use Rattle.quick_follow.proofs.Going.{asked_as, lacks_as, asked_stops, asked_goes, asked_inside, ended_found}
use mathlib.Core.Bool.{not}
use Rattle.quick_meet.proofs.Tests.{there}
use Rattle.quick_follow.proofs.online.second.Goals as goal

two_long : (reply : HostReply) (asked : Cryptogram) (code : List ℕ) → length code ≡ 2 → length (response_code reply asked code) ≡ 2
unfolding response_code
two_long Approve asked code e = e
two_long Decline asked code e = e
two_long Unable Tc code e = refl
two_long Unable Aac code e = refl
two_long Unable Arqc code e = refl

pub returns-then-not-is_fillable : goal.returns-then-not-is_fillable
unfolding replied list_in
returns-then-not-is_fillable c =
    let args = c.args in
    let t = args.tape.now in
    let bytes = bytes_each t (λ i h. omega (arith, c.type_inv.tape i)) in
    let small : args.at.zeros < 2 ^ 64 = omega (arith, c.well_formed) in
    let s = situation_in args.s.start.now args.s.told.now args.s.profile args.s.tvr args.s.tsi in
    let test = sym (c.is_fillable.ensures ∙ ap fillable c.value-list.ensures) ∙ not-true _ (ap not c.if-not-is_fillable.true) in
    c.end.ensures
    ∙ (ended_found t bytes args.at.k args.at.zeros small s 9
    ∙ sym (ap (λ (p : Phase). found_from p args.at.k args.at.zeros t) (pick_no _ _ _ test)))

pub returns-in-Err : goal.returns-in-Err
unfolding replied list_in command_of unsupplied_asking
returns-in-Err c =
    let args = c.args in
    let t = args.tape.now in
    let bytes = bytes_each t (λ i h. omega (arith, c.type_inv.tape i)) in
    let told = args.s.told.now in
    let s = situation_in args.s.start.now told args.s.profile args.s.tvr args.s.tsi in
    let five : length args.s.tvr ≡ 5 = omega (arith, c.well_formed) in
    let two : length args.s.tsi ≡ 2 = omega (arith, c.well_formed) in
    let pair : length args.s.profile ≡ 2 = omega (arith, c.well_formed) in
    let code : length args.code ≡ 2 = omega (arith, c.well_formed) in
    let request = c.second_request-request.result in
    let response = c.response_code-response.result in
    let long = ap length c.response_code-response.ensures ∙ two_long args.reply request args.code code in
    let known = ap told_in c.at_second-known.ensures
    ∙ second_known args.s.start.now told args.s.tvr args.s.tsi (omega (arith, c.well_formed)) five two args.s.profile pair response long in
    let list = c.value-list.ensures in
    let w = second s request response in
    let due = asked_as (reading_of args.s.start.now) known list (p1_of request) in
    let lacks = c.unsupplied.ensures ∙ lacks_as (reading_of args.s.start.now) known list in
    let sum = c.sum-zeros.ensures in
    let test = sym (c.is_fillable.ensures ∙ ap fillable list) ∙ not-false _ (ap not c.if-not-is_fillable.false) in
    let e = c.second_request-request.ensures in
    let same = (λ i. found_from (asks (second s (e i) ((c.response_code-response.ensures
    ∙ ap (λ (x : Cryptogram). response_code args.reply x args.code) e) i))) args.at.k args.at.zeros t)
    ∙ sym (ap (λ (p : Phase). found_from p args.at.k args.at.zeros t) (pick_yes _ _ _ test)) in
    c.stop.ensures
    ∙ (asked_stops t bytes args.at.k args.at.zeros w c.cryptogram.result _ _ _ c.cryptogram.ensures due sum lacks
    _ c.in-Err.is
    ∙ same)

-- what was met stands inside the tape
pub overflow_add-at : goal.overflow_add-at
overflow_add-at c =
    let inside = asked_inside c.args.tape.now c.args.at.k c.cryptogram.result _ c.cryptogram.ensures
    (ap there c.in_default.is) in
    omega (arith, c.well_formed)

pub overflow_add-next : goal.overflow_add-next
overflow_add-next c =
    let inside = asked_inside c.args.tape.now c.args.at.k c.cryptogram.result _ c.cryptogram.ensures
    (ap there c.in_default.is) in
    omega (arith, c.well_formed)

pub returns : goal.returns
unfolding replied list_in command_of unsupplied_asking turn
returns c =
    let args = c.args in
    let t = args.tape.now in
    let bytes = bytes_each t (λ i h. omega (arith, c.type_inv.tape i)) in
    let told = args.s.told.now in
    let s = situation_in args.s.start.now told args.s.profile args.s.tvr args.s.tsi in
    let five : length args.s.tvr ≡ 5 = omega (arith, c.well_formed) in
    let two : length args.s.tsi ≡ 2 = omega (arith, c.well_formed) in
    let pair : length args.s.profile ≡ 2 = omega (arith, c.well_formed) in
    let code : length args.code ≡ 2 = omega (arith, c.well_formed) in
    let request = c.second_request-request.result in
    let response = c.response_code-response.result in
    let long = ap length c.response_code-response.ensures ∙ two_long args.reply request args.code code in
    let known = ap told_in c.at_second-known.ensures
    ∙ second_known args.s.start.now told args.s.tvr args.s.tsi (omega (arith, c.well_formed)) five two args.s.profile pair response long in
    let list = c.value-list.ensures in
    let w = second s request response in
    let due = asked_as (reading_of args.s.start.now) known list (p1_of request) in
    let lacks = c.unsupplied.ensures ∙ lacks_as (reading_of args.s.start.now) known list in
    let sum = c.sum-zeros.ensures in
    let test = sym (c.is_fillable.ensures ∙ ap fillable list) ∙ not-false _ (ap not c.if-not-is_fillable.false) in
    let e = c.second_request-request.ensures in
    let same = (λ i. found_from (asks (second s (e i) ((c.response_code-response.ensures
    ∙ ap (λ (x : Cryptogram). response_code args.reply x args.code) e) i))) args.at.k args.at.zeros t)
    ∙ sym (ap (λ (p : Phase). found_from p args.at.k args.at.zeros t) (pick_yes _ _ _ test)) in
    c.from_second.ensures s refl refl
    ∙ (asked_goes t bytes args.at.k args.at.zeros w c.cryptogram.result _ _ _ c.cryptogram.ensures due sum lacks
    _ c.payload_at-a.ensures (ap there c.in_default.is)
    ∙ same)
