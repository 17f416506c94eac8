-- `follow` meets its contract: START, and what follows it.
-- Assumes nothing.
use mathlib.Core.Path.{sym, ap, ◌∙◌}
use mathlib.Core.List.{List}
use Prim.Native.Nat.{ℕ, ◌^◌, ◌<◌}
use native.Mathlib.Omega.{arith}
use Rattle.tape_crc.proofs.Bytes.{bytes_each}
use borrow.Author.Tests.{not-true, not-false}
use Rattle.start_fields.specs.Reading.{reading_of}
use Rattle.start_valid.specs.Start.{valid_start}
use Rattle.rulebook.specs.Phase.{terminal, due_kind}
use Rattle.rulebook.specs.Turn.{opened, allowed, after}
use Rattle.quick_said.specs.Said.{found_from}
use Rattle.quick_follow.proofs.Going.{heard_stops, heard_fails, heard_goes}
use mathlib.Core.Bool.{not}
use Rattle.quick_meet.proofs.Tests.{there}
use Rattle.quick_follow.proofs.follow.Goals as goal

pub returns-in-Err : goal.returns-in-Err
unfolding due_kind
returns-in-Err c =
    let t = c.args.tape.now in
    let bytes = bytes_each t (λ i h. omega (arith, c.type_inv.tape i)) in
    let none_yet : 0 < 2 ^ 64 = omega arith in
    c.stop.ensures
    ∙ heard_stops t bytes 0 0 none_yet terminal c.word.result c.word.ensures _ c.in-Err.is

pub returns-then-not-valid_start : goal.returns-then-not-valid_start
unfolding due_kind allowed
returns-then-not-valid_start c =
    let t = c.args.tape.now in
    let bytes = bytes_each t (λ i h. omega (arith, c.type_inv.tape i)) in
    let none_yet : 0 < 2 ^ 64 = omega arith in
    let valid = c.valid_start.ensures ∙ ap valid_start c.payload_at-start.ensures in
    c.fail.ensures
    ∙ heard_fails t bytes 0 0 none_yet terminal c.word.result c.word.ensures (ap there c.in_default.is)
    (sym valid ∙ not-true _ (ap not c.if-not-valid_start.true))

pub returns : goal.returns
unfolding due_kind allowed after
returns c =
    let t = c.args.tape.now in
    let bytes = bytes_each t (λ i h. omega (arith, c.type_inv.tape i)) in
    let none_yet : 0 < 2 ^ 64 = omega arith in
    let valid = c.valid_start.ensures ∙ ap valid_start c.payload_at-start.ensures in
    c.from_start.ensures
    ∙ (ap (λ (x : List ℕ). found_from (opened (reading_of x)) 1 0 t) c.payload_at-start.ensures
    ∙ heard_goes t bytes 0 0 none_yet terminal c.word.result c.word.ensures (ap there c.in_default.is)
    (sym valid ∙ not-false _ (ap not c.if-not-valid_start.false)))
