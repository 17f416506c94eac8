-- `both` meets its contract: where neither entry is turned away, the second is asked of the writer that the first left.
-- Assumes nothing.
use Rattle.tape_read.specs.Entries.{entry}
use Rattle.kernel_record.proofs.Keeping.{both_refused, both_taken}
use Rattle.kernel_record.proofs.both.Goals as goal

pub returns-then-refusal-ne0 : goal.returns-then-refusal-ne0
returns-then-refusal-ne0 c =
    let a = c.args in
    both_refused a.writer (entry a.kind a.payload.now) (entry a.next_kind a.next_payload.now) a.tape.now
    c.why_refused-refusal.result c.why_refused-refusal.ensures c.if-refusal-ne0.true

pub returns : goal.returns
returns c =
    let second = c.append in
    let asked = c.why_refused-refusal in
    let a = c.args in
    both_taken a.writer (entry a.kind a.payload.now) (entry a.next_kind a.next_payload.now) a.tape.now
    asked.result asked.ensures c.if-refusal-ne0.false
    c.append-first.result second.result _ _
    c.append-first.ensures.value c.append-first.ensures.tape_after second.ensures.value second.ensures.tape_after
