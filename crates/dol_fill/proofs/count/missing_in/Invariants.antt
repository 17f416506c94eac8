-- `count::missing_in` meets its contract. The loop's invariant: what was counted and what is still to be counted come to the count of the
-- list; and no more is counted than bytes were passed.
-- Assumes nothing.
use Rattle.std.proofs.Common.{length}
use Rattle.start_fields.specs.Reading.{reading_of}
use Rattle.session_records.specs.Slots.{told_in}
use Rattle.dol_wanted.specs.Wanted.{entries_of}
use Rattle.dol_fill.specs.Filled.{missing_by}
use Rattle.dol_fill.proofs.Missing.{ToCount}
use Rattle.dol_fill.proofs.count.missing_in.Given as goal

abbrev pub invariant-loop-rest : goal.invariant-loop-rest
invariant-loop-rest l =
    ToCount (reading_of l.from.start.now) (told_in l.from.known.now) l.rest l.count (length l.list)
    (missing_by (reading_of l.from.start.now) (told_in l.from.known.now) (entries_of l.list))

abbrev pub decreases-loop-rest : goal.decreases-loop-rest
decreases-loop-rest l = length l.rest
