-- `records::read_all` meets its contract. The loop's invariant: what is found from here on is what is found of all.
-- Assumes nothing.
use mathlib.Core.Path.{refl, sym, ap, ◌∙◌}
use mathlib.Core.Bool.{Bool}
use mathlib.Core.List.{List}
use Prim.Native.Nat.{ℕ, ◌+◌, ◌^◌, ◌<◌}
use native.Mathlib.Omega.{arith}
use Rattle.tape_crc.proofs.Bytes.{bytes_each}
use lib.ListN.{length}
use lib.Seq.{length-take-le}
use Rattle.slices.specs.Tests.{is_some}
use Rattle.slices.specs.Writing.{zeros}
use Rattle.start_fields.specs.Reading.{reading_of}
use Rattle.session_records.specs.Slots.{end, told_in}
use Rattle.answer_afl.specs.Cursor.{record_at, stepped, remaining}
use Rattle.answer_afl.specs.declared.cursor.Cursor.{Cursor}
use Rattle.answer_afl.proofs.Walking.{none_remain, all_remain}
use Rattle.answer_common.specs.Content.{record_names, names_for}
use Rattle.answer_record.specs.Records.{record_reason}
use Rattle.answer_laws.proofs.Reasons.{record_small}
use Rattle.rulebook.specs.Phase.{reading, Phase, command_of}
use Rattle.rulebook.specs.Turn.{read_on, with_record, recorded, turn}
use Rattle.rulebook_zeros.specs.Zeros.{unsupplied_asking}
use Rattle.quick_said.specs.Said.{found_from}
use Rattle.quick_said.proofs.Reading.{sum_none}
use Rattle.quick_ask.specs.Standing.{situation_in}
use Rattle.quick_follow.proofs.Going.{asked_stops, asked_goes, asked_inside, reason_ends, reason_goes}
use Rattle.quick_follow.proofs.Recording.{next_due, fewer_left, record_reason_lem, record_whole, record_after}
use Rattle.quick_follow.proofs.records.read_all.Invariants.{from}
use Rattle.quick_meet.proofs.Tests.{there}
use Rattle.quick_follow.proofs.records.read_all.Goals as goal

pub loop-names-init : goal.loop-names-init
unfolding zeros
loop-names-init c =
    let args = c.args in
    let afl = args.afl.now in (
      refl,
      ap (λ (x : List (ℕ × ℕ)). from args.start.now args.profile (zeros end) x 5 args.zeros args.tape.now)
          (ap (remaining afl) c.start-c.ensures ∙ all_remain afl),
    )

pub returns-in-Err : goal.returns-in-Err
unfolding command_of unsupplied_asking
returns-in-Err c =
    let l = c.loop-names in
    let args = c.args in
    let t = args.tape.now in
    let afl = args.afl.now in
    let bytes = bytes_each t (λ i h. omega (arith, c.type_inv.tape i)) in
    let small : args.zeros < 2 ^ 64 = omega (arith, c.well_formed) in
    let s = situation_in args.start.now l.told args.profile (zeros 5) (zeros 2) in
    let left = sym c.is_left.ensures.0 ∙ c.loop-names-test.true in
    let rest = remaining afl (stepped afl l.c) in
    let w = reading s (record_at afl l.c).0 (record_at afl l.c).1 rest in
    let back = ap (λ (p : Phase). found_from p l.k args.zeros t) (sym (next_due s afl l.c left)) ∙ l.invariant.1 in
    c.stop.ensures
    ∙ (asked_stops t bytes l.k args.zeros w c.read.result _ 0 args.zeros c.read.ensures refl
    (sym (sum_none args.zeros small)) refl _ c.in-Err.is
    ∙ back)

pub slice_bounds-take-end-in-loop-names : goal.slice_bounds-take-end-in-loop-names
slice_bounds-take-end-in-loop-names c =
    sym (length-take-le _ record_names c.names_for-n.ensures.2)

-- what was met stands inside the tape
pub overflow_add-k : goal.overflow_add-k
overflow_add-k c =
    let l = c.loop-names in
    let inside = asked_inside c.args.tape.now l.k c.read.result _ c.read.ensures
    (ap there c.in_default.is) in
    omega (arith, c.well_formed)

pub overflow_add-k-then-why-ne0 : goal.overflow_add-k-then-why-ne0
overflow_add-k-then-why-ne0 c =
    let l = c.loop-names in
    let inside = asked_inside c.args.tape.now l.k c.read.result _ c.read.ensures
    (ap there c.in_default.is) in
    omega (arith, c.well_formed)

pub returns-then-why-ne0 : goal.returns-then-why-ne0
unfolding command_of unsupplied_asking turn recorded zeros
returns-then-why-ne0 c =
    let l = c.loop-names in
    let args = c.args in
    let t = args.tape.now in
    let afl = args.afl.now in
    let bytes = bytes_each t (λ i h. omega (arith, c.type_inv.tape i)) in
    let small : args.zeros < 2 ^ 64 = omega (arith, c.well_formed) in
    let s = situation_in args.start.now l.told args.profile (zeros 5) (zeros 2) in
    let left = sym c.is_left.ensures.0 ∙ c.loop-names-test.true in
    let rest = remaining afl (stepped afl l.c) in
    let w = reading s (record_at afl l.c).0 (record_at afl l.c).1 rest in
    let back = ap (λ (p : Phase). found_from p l.k args.zeros t) (sym (next_due s afl l.c left)) ∙ l.invariant.1 in
    let a = c.payload_at.result.now in
    let counts = c.names_for-n.ensures.1 in
    let seen : ℕ → Bool = λ name. is_some (told_in l.told name) in
    let names = names_for (reading_of args.start.now) in
    let next = read_on (with_record s a) rest in
    let why = record_reason_lem args.start.now a _ l.told _ c.take-why.result l.invariant.0 counts c.take-why.ensures in
    let there = ap there c.in_default.is in
    let answered = asked_goes t bytes l.k args.zeros w c.read.result _ 0 args.zeros c.read.ensures refl
    (sym (sum_none args.zeros small)) refl a c.payload_at.ensures there in
    c.end.ensures
    ∙ (reason_ends t bytes (l.k + 2) args.zeros small s _ (record_reason names seen a) next why (record_small names seen a)
    c.if-why-ne0.true
    ∙ (answered ∙ back))

pub overflow_add-k-in-loop-names : goal.overflow_add-k-in-loop-names
overflow_add-k-in-loop-names c =
    let l = c.loop-names in
    let inside = asked_inside c.args.tape.now l.k c.read.result _ c.read.ensures
    (ap there c.in_default.is) in
    omega (arith, c.well_formed)

pub loop-names-smaller : goal.loop-names-smaller
loop-names-smaller c =
    let l = c.loop-names in
    let afl = c.args.afl.now in
    let left = sym c.is_left.ensures.0
    ∙ c.loop-names-test.true in
    let fewer = fewer_left afl l.c left in
    let on = ap (λ (x : Cursor). length (remaining afl x)) c.step-next.ensures in
    omega arith

pub loop-names-preserved : goal.loop-names-preserved
unfolding command_of unsupplied_asking turn recorded
loop-names-preserved c =
    let l = c.loop-names in
    let args = c.args in
    let t = args.tape.now in
    let afl = args.afl.now in
    let bytes = bytes_each t (λ i h. omega (arith, c.type_inv.tape i)) in
    let small : args.zeros < 2 ^ 64 = omega (arith, c.well_formed) in
    let s = situation_in args.start.now l.told args.profile (zeros 5) (zeros 2) in
    let left = sym c.is_left.ensures.0 ∙ c.loop-names-test.true in
    let rest = remaining afl (stepped afl l.c) in
    let w = reading s (record_at afl l.c).0 (record_at afl l.c).1 rest in
    let back = ap (λ (p : Phase). found_from p l.k args.zeros t) (sym (next_due s afl l.c left)) ∙ l.invariant.1 in
    let a = c.payload_at.result.now in
    let counts = c.names_for-n.ensures.1 in
    let seen : ℕ → Bool = λ name. is_some (told_in l.told name) in
    let names = names_for (reading_of args.start.now) in
    let next = read_on (with_record s a) rest in
    let why = record_reason_lem args.start.now a _ l.told _ c.take-why.result l.invariant.0 counts c.take-why.ensures in
    let there = ap there c.in_default.is in
    let answered = asked_goes t bytes l.k args.zeros w c.read.result _ 0 args.zeros c.read.ensures refl
    (sym (sum_none args.zeros small)) refl a c.payload_at.ensures there in
    let good = c.if-why-ne0.false in
    let situation = record_after args.start.now a _ l.told _ c.take-why.result l.invariant.0 counts c.take-why.ensures good
    args.profile (zeros 5) (zeros 2) in (
      record_whole args.start.now a _ l.told _ c.take-why.result l.invariant.0 counts c.take-why.ensures good,
      (λ i. found_from (read_on (situation i) (remaining afl (c.step-next.ensures i))) (l.k + 2) args.zeros t)
          ∙ (reason_goes t bytes (l.k + 2) args.zeros small s _ (record_reason names seen a) next why good
          ∙ (answered ∙ back)),
    )

pub returns : goal.returns
unfolding read_on
returns c =
    let l = c.loop-names in
    let args = c.args in
    let afl = args.afl.now in
    let none = none_remain afl l.c (sym c.is_left.ensures.0 ∙ c.loop-names-test.false) in
    c.all_read.ensures
    ∙ (ap (λ (x : List (ℕ × ℕ)). from args.start.now args.profile l.told x l.k args.zeros args.tape.now) (sym none)
    ∙ l.invariant.1)
