-- `answer_record::take_all` meets its contract. The loop's invariant: what is taken from p on, after what is taken already, is all.
-- Assumes nothing.
use mathlib.Core.Path.{refl, sym, ap, ◌∙◌}
use native.Mathlib.Omega.{arith}
use Rattle.tlv_list.proofs.Checked.{checked_ahead}
use Rattle.answer_record.specs.Taken.{taken, one_taken, taken_from}
use Rattle.answer_record.proofs.Walked.{taken_end, taken_broken, taken_member, taken_past}
use Rattle.answer_record.proofs.take_all.Goals as goal

pub loop-p-init : goal.loop-p-init
loop-p-init c = (refl, refl)

pub enum_told-1 : goal.enum_told-1
enum_told-1 c = c.in-End.in-End-own.keys1

pub returns-in-End : goal.returns-in-End
returns-in-End c =
    let a = c.args in
    let l = c.loop-p in
    sym
    (taken_end a.names.now a.s.now l.p (taken l.why l.told)
    (sym c.next_checked.ensures ∙ c.in-End.is))
    ∙ l.invariant.1

pub enum_told-in-Broken : goal.enum_told-in-Broken
enum_told-in-Broken c = c.in-Broken.in-Broken-own.keys2

pub returns-in-Broken : goal.returns-in-Broken
unfolding taken
returns-in-Broken c =
    let a = c.args in
    let l = c.loop-p in
    sym
    (taken_broken a.names.now a.s.now l.p (taken l.why l.told)
    (sym c.next_checked.ensures ∙ c.in-Broken.is))
    ∙ l.invariant.1

pub enum_known-tag : goal.enum_known-tag
enum_known-tag c = c.in-Member.in-Member-own.keys3

pub loop-p-smaller : goal.loop-p-smaller
loop-p-smaller c =
    let s = c.args.s.now in
    let l = c.loop-p in
    let ahead = checked_ahead s l.p c.in-Member.tag c.in-Member.start c.in-Member.end (sym c.next_checked.ensures ∙ c.in-Member.is) in
    omega arith

pub loop-p-preserved : goal.loop-p-preserved
loop-p-preserved c =
    let a = c.args in
    let names = a.names.now in
    let s = a.s.now in
    let l = c.loop-p in
    let v = c.value in (
      omega (arith, c.take_one-why.auto),
      ap (taken_from names s c.in-Member.end)
          (c.take_one-why.ensures ∙ ap (λ x. one_taken names c.in-Member.tag x (taken l.why l.told)) v.ensures)
          ∙ (sym (taken_member names s l.p (taken l.why l.told) c.in-Member.tag c.in-Member.start c.in-Member.end
          (sym c.next_checked.ensures ∙ c.in-Member.is))
          ∙ l.invariant.1),
    )

pub returns : goal.returns
returns c =
    let a = c.args in
    let l = c.loop-p in
    sym (taken_past a.names.now a.s.now l.p (taken l.why l.told) c.loop-p-test.false) ∙ l.invariant.1
