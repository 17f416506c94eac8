-- `online::host` meets its contract: the issuer's reply, where it is one, leads to the second request.
-- Assumes nothing.
use mathlib.Core.Path.{sym, ap, ◌∙◌}
use Prim.Native.Nat.{ℕ, ◌+◌, ◌^◌, ◌<◌}
use native.Mathlib.Omega.{arith}
use mathlib.Core.List.{List}
use Rattle.tape_crc.proofs.Bytes.{bytes_each}
use borrow.Author.Tests.{not-true, not-false}
use Rattle.words.specs.Words.{word_kind, word_allowed}
use Rattle.words.specs.declared.Word.TheVariants.{Host}
use Rattle.decide_requests.specs.Replies.{code_in, reply_of}
use Rattle.rulebook.specs.Phase.{says, due_kind}
use Rattle.rulebook.specs.Turn.{wanted_in, allowed, reply_made, replied, issuer_replied, after}
use Rattle.quick_said.specs.Said.{found_from}
use Rattle.quick_ask.specs.Standing.{situation_in}
use Rattle.quick_follow.proofs.Going.{heard_stops, heard_fails, heard_goes, heard_inside}
use mathlib.Core.Bool.{not}
use Rattle.quick_meet.proofs.Tests.{there}
use Rattle.quick_follow.proofs.online.host.Goals as goal

pub returns-in-Err : goal.returns-in-Err
unfolding due_kind word_kind
returns-in-Err c =
    let args = c.args in
    let t = args.tape.now in
    let bytes = bytes_each t (λ i h. omega (arith, c.type_inv.tape i)) in
    let small : args.at.zeros < 2 ^ 64 = omega (arith, c.well_formed) in
    let h = says Host (situation_in args.s.start.now args.s.told.now args.s.profile args.s.tvr args.s.tsi) in
    c.stop.ensures
    ∙ heard_stops t bytes args.at.k args.at.zeros small h c.word.result c.word.ensures _ c.in-Err.is

pub returns-then-not-is_allowed : goal.returns-then-not-is_allowed
unfolding due_kind word_kind allowed wanted_in
returns-then-not-is_allowed c =
    let args = c.args in
    let t = args.tape.now in
    let bytes = bytes_each t (λ i h. omega (arith, c.type_inv.tape i)) in
    let small : args.at.zeros < 2 ^ 64 = omega (arith, c.well_formed) in
    let h = says Host (situation_in args.s.start.now args.s.told.now args.s.profile args.s.tvr args.s.tsi) in
    let test = sym (c.is_allowed.ensures ∙ ap (word_allowed Host 0) c.payload_at-p.ensures)
    ∙ not-true _ (ap not c.if-not-is_allowed.true) in
    c.fail.ensures
    ∙ heard_fails t bytes args.at.k args.at.zeros small h c.word.result c.word.ensures (ap there c.in_default.is) test

pub overflow_add-next : goal.overflow_add-next
overflow_add-next c =
    let inside = heard_inside c.args.tape.now c.args.at.k _ c.word.result c.word.ensures
    (ap there c.in_default.is) in
    omega (arith, c.well_formed)

pub returns : goal.returns
unfolding due_kind word_kind allowed wanted_in after issuer_replied
returns c =
    let args = c.args in
    let t = args.tape.now in
    let bytes = bytes_each t (λ i h. omega (arith, c.type_inv.tape i)) in
    let small : args.at.zeros < 2 ^ 64 = omega (arith, c.well_formed) in
    let s = situation_in args.s.start.now args.s.told.now args.s.profile args.s.tvr args.s.tsi in
    let test = sym (c.is_allowed.ensures ∙ ap (word_allowed Host 0) c.payload_at-p.ensures)
    ∙ not-false _ (ap not c.if-not-is_allowed.false) in
    let reply = c.reply_made.ensures ∙ ap (λ (x : List ℕ). reply_made (reply_of x)) c.payload_at-p.ensures in
    let code = c.code_in.ensures ∙ ap code_in c.payload_at-p.ensures in
    c.second.ensures
    ∙ ((λ i. found_from (replied s (reply i) (code i)) (args.at.k + 1) args.at.zeros t)
    ∙ heard_goes t bytes args.at.k args.at.zeros small (says Host s) c.word.result c.word.ensures
    (ap there c.in_default.is) test)
