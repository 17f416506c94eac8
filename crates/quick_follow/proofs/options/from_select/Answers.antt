-- `options::from_select` meets its contract: a bad answer ends the session, a good one leads to GPO, met.
-- Assumes nothing.
use mathlib.Core.Path.{sym, ap, ◌∙◌}
use Prim.Native.Nat.{◌^◌, ◌<◌}
use native.Mathlib.Omega.{arith}
use Rattle.tape_crc.proofs.Bytes.{bytes_each}
use Rattle.slices.specs.Writing.{zeros}
use Rattle.start_fields.specs.Reading.{reading_of}
use Rattle.session_records.specs.Slots.{told_in}
use Rattle.commands.specs.Commands.{options_command}
use Rattle.answer_select.specs.Select.{select_reason, pdol_of}
use Rattle.answer_select.proofs.Good.{pdol_good}
use Rattle.answer_laws.proofs.Reasons.{select_small}
use Rattle.rulebook.specs.Situation.{begun}
use Rattle.rulebook.specs.Phase.{optioning, asks, command_of}
use Rattle.rulebook.specs.Turn.{selected, turn}
use Rattle.rulebook_zeros.specs.Zeros.{unsupplied_asking}
use Rattle.quick_follow.proofs.Going.{filled_as, lacks_as, asked_stops, asked_goes, reason_ends, reason_goes}
use Rattle.quick_follow.proofs.Beginning.{begun_known}
use Rattle.quick_meet.proofs.Tests.{there}
use Rattle.quick_follow.proofs.options.from_select.Goals as goal

pub returns-then-why-ne0 : goal.returns-then-why-ne0
unfolding selected begun zeros
returns-then-why-ne0 c =
    let args = c.args in
    let t = args.tape.now in
    let a = args.a.now in
    let bytes = bytes_each t (λ i h. omega (arith, c.type_inv.tape i)) in
    let none_yet : 0 < 2 ^ 64 = omega arith in
    let terminal = reading_of args.start.now in
    let s = begun terminal in
    c.end.ensures
    ∙ reason_ends t bytes 3 0 none_yet s _ _ (asks (optioning s (pdol_of a))) c.select_reason-why.ensures (select_small terminal a)
    c.if-why-ne0.true

pub returns-in-Err : goal.returns-in-Err
unfolding selected begun zeros command_of unsupplied_asking
returns-in-Err c =
    let args = c.args in
    let t = args.tape.now in
    let a = args.a.now in
    let bytes = bytes_each t (λ i h. omega (arith, c.type_inv.tape i)) in
    let none_yet : 0 < 2 ^ 64 = omega arith in
    let terminal = reading_of args.start.now in
    let s = begun terminal in
    let known = ap told_in c.at_options-known.ensures ∙ begun_known args.start.now in
    let good = sym c.select_reason-why.ensures ∙ c.if-why-ne0.false in
    let list = c.pdol_read-list.ensures ∙ pdol_good terminal a good in
    let due = ap options_command (filled_as terminal known list) in
    let lacks = c.unsupplied.ensures ∙ lacks_as terminal known list in
    let sum = c.sum-zeros.ensures in
    let w = optioning s (pdol_of a) in
    let same = reason_goes t bytes 3 0 none_yet s _ (select_reason terminal a) (asks w) c.select_reason-why.ensures c.if-why-ne0.false in
    c.stop.ensures
    ∙ (asked_stops t bytes 3 0 w c.options.result _ _ _ c.options.ensures due sum lacks _ c.in-Err.is
    ∙ same)

pub returns : goal.returns
unfolding selected begun zeros command_of unsupplied_asking turn
returns c =
    let args = c.args in
    let t = args.tape.now in
    let a = args.a.now in
    let bytes = bytes_each t (λ i h. omega (arith, c.type_inv.tape i)) in
    let none_yet : 0 < 2 ^ 64 = omega arith in
    let terminal = reading_of args.start.now in
    let s = begun terminal in
    let known = ap told_in c.at_options-known.ensures ∙ begun_known args.start.now in
    let good = sym c.select_reason-why.ensures ∙ c.if-why-ne0.false in
    let list = c.pdol_read-list.ensures ∙ pdol_good terminal a good in
    let due = ap options_command (filled_as terminal known list) in
    let lacks = c.unsupplied.ensures ∙ lacks_as terminal known list in
    let sum = c.sum-zeros.ensures in
    let w = optioning s (pdol_of a) in
    let same = reason_goes t bytes 3 0 none_yet s _ (select_reason terminal a) (asks w) c.select_reason-why.ensures c.if-why-ne0.false in
    c.from_options.ensures
    ∙ (asked_goes t bytes 3 0 w c.options.result _ _ _ c.options.ensures due sum lacks _ c.payload_at.ensures
    (ap there c.in_default.is)
    ∙ same)
