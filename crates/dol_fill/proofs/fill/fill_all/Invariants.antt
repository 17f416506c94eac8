-- `fill::fill_all` meets its contract. The loop's invariant: what is still to be written, written from p on, gives the buffer that is
-- wanted.
-- Assumes nothing.
use Rattle.std.proofs.Common.{length}
use Rattle.slices.specs.Writing.{put}
use Rattle.start_fields.specs.Reading.{reading_of}
use Rattle.session_records.specs.Slots.{told_in}
use Rattle.dol_fill.specs.Filled.{filled_list}
use Rattle.dol_fill.proofs.Filling.{ToFill}
use Rattle.dol_fill.proofs.fill.fill_all.Given as goal

abbrev pub invariant-loop-rest : goal.invariant-loop-rest
invariant-loop-rest l =
    ToFill (reading_of l.from.start.now) (told_in l.from.known.now) l.rest l.p l.buf (length l.initial.buf)
    (put (filled_list (reading_of l.from.start.now) (told_in l.from.known.now) l.list) l.at l.initial.buf)

abbrev pub decreases-loop-rest : goal.decreases-loop-rest
decreases-loop-rest l = length l.rest
