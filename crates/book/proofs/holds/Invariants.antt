-- `book::holds` meets its contract. The loop's invariant: what is left of the blocks holds the tape number exactly where all of them
-- do. Assumes nothing.
use Rattle.std.proofs.Common.{◌≡◌}
use Rattle.book.specs.Entering.{stored, entered}
use Rattle.book.proofs.Searching.{from}
use Rattle.book.proofs.holds.Given as goal

abbrev pub invariant-loop-k : goal.invariant-loop-k
invariant-loop-k l = entered l.tape (from l.k l.n l.bytes) ≡ entered l.tape (stored l.used l.bytes)
