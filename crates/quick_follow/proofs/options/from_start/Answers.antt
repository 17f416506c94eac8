-- `options::from_start` meets its contract: SELECT, met.
-- Assumes nothing.
use mathlib.Core.Path.{refl, sym, ap, ◌∙◌}
use Prim.Native.Nat.{◌^◌, ◌<◌}
use native.Mathlib.Omega.{arith}
use Rattle.tape_crc.proofs.Bytes.{bytes_each}
use Rattle.start_fields.specs.Reading.{reading_of}
use Rattle.rulebook.specs.Situation.{begun}
use Rattle.rulebook.specs.Phase.{selecting, command_of}
use Rattle.rulebook.specs.Turn.{opened, turn}
use Rattle.rulebook_zeros.specs.Zeros.{unsupplied_asking}
use Rattle.quick_said.proofs.Reading.{sum_none}
use Rattle.quick_follow.proofs.Going.{asked_stops, asked_goes}
use Rattle.quick_meet.proofs.Tests.{there}
use Rattle.quick_follow.proofs.options.from_start.Goals as goal

pub returns-in-Err : goal.returns-in-Err
unfolding opened begun command_of unsupplied_asking
returns-in-Err c =
    let args = c.args in
    let t = args.tape.now in
    let bytes = bytes_each t (λ i h. omega (arith, c.type_inv.tape i)) in
    let none_yet : 0 < 2 ^ 64 = omega arith in
    let w = selecting (begun (reading_of args.start.now)) in
    c.stop.ensures
    ∙ asked_stops t bytes 1 0 w c.select.result _ 0 0 c.select.ensures refl (sym (sum_none 0 none_yet)) refl
    _ c.in-Err.is

pub returns : goal.returns
unfolding opened begun command_of unsupplied_asking turn
returns c =
    let args = c.args in
    let t = args.tape.now in
    let bytes = bytes_each t (λ i h. omega (arith, c.type_inv.tape i)) in
    let none_yet : 0 < 2 ^ 64 = omega arith in
    let w = selecting (begun (reading_of args.start.now)) in
    c.from_select.ensures
    ∙ asked_goes t bytes 1 0 w c.select.result _ 0 0 c.select.ensures refl (sym (sum_none 0 none_yet)) refl
    _ c.payload_at.ensures (ap there c.in_default.is)
