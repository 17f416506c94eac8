-- `answer_afl::entries::are_too_many` meets its contract. The loop's invariant: what was counted and what is left to count make
-- the number of all records, and what was counted is not too many yet. Assumes nothing.
use mathlib.Core.Path.{◌≡◌}
use Prim.Native.Nat.{◌+◌, ◌≤◌}
use Rattle.std.specs.Slice.Iter.{chunks_exact_rest, chunks_exact_size}
use Rattle.answer_afl.specs.Entries.{most_records, record_count}
use Rattle.answer_afl.proofs.entries.are_too_many.Given as goal

abbrev pub invariant-loop-entry : goal.invariant-loop-entry
invariant-loop-entry l =
    (chunks_exact_size l.entry-iterator ≡ 4)
    × (l.sum ≤ most_records)
    × (l.sum + record_count (chunks_exact_rest l.entry-iterator) ≡ record_count l.locator)
