-- `answer_afl::entries::are_too_many` meets its contract. The loop's invariant: what was counted and what is left to count make
-- the number of all records, and what was counted is not too many yet. Assumes nothing.
use mathlib.Core.Path.{sym, ap, ◌∙◌}
use Prim.Native.Nat.{◌≤◌, ◌<◌}
use native.Mathlib.Omega.{arith}
use borrow.Author.Tests.{lt-ltb, le-ltb}
use Rattle.std.specs.Slice.Iter.{chunks_exact_rest}
use Rattle.answer_afl.specs.Entries.{most_records, record_count, too_many}
use Rattle.answer_afl.proofs.Counting.{count_end}
use Rattle.answer_afl.proofs.Chunks.{count_front}
use Rattle.answer_afl.proofs.entries.are_too_many.Goals as goal

pub returns-then-sum-gt-MOST_RECORDS : goal.returns-then-sum-gt-MOST_RECORDS
unfolding too_many
returns-then-sum-gt-MOST_RECORDS c =
    let p = c.in-Some.ensures.steps in
    let whole = ap record_count p.1.0 in
    let more = count_front c.in-Some.entry.now (chunks_exact_rest c.next.new.self) (p.1.1 ∙ c.loop-entry.invariant.0) in
    let over : most_records < record_count c.args.locator.now = omega arith in
    sym (lt-ltb most_records _ over)

pub loop-entry-preserved : goal.loop-entry-preserved
loop-entry-preserved c =
    let p = c.in-Some.ensures.steps in
    let whole = ap record_count p.1.0 in
    let more = count_front c.in-Some.entry.now (chunks_exact_rest c.next.new.self) (p.1.1 ∙ c.loop-entry.invariant.0) in
    (p.0 ∙ c.loop-entry.invariant.0, omega arith, omega arith)

pub returns : goal.returns
unfolding too_many
returns c =
    let p = c.in-None.ensures.steps in
    let none' = count_end (chunks_exact_rest c.loop-entry.entry-iterator) (omega arith) in
    let within : record_count c.args.locator.now ≤ most_records = omega arith in
    sym (le-ltb most_records _ within)
