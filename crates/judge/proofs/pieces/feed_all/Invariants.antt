-- `pieces::feed_all` meets its contract: what is left of the tape, handed in, leads where the whole tape does.
-- Assumes nothing.
use Rattle.std.proofs.Common.{◌≡◌}
use Rattle.tape_feed.specs.Feeding.{pieces_of}
use Rattle.judge.specs.Feeding.{begun, fed_all}
use Rattle.judge.proofs.Fed.{rest}
use Rattle.judge.proofs.pieces.feed_all.Given as goal

abbrev pub invariant-loop-k : goal.invariant-loop-k
invariant-loop-k l = rest l.u l.k l.tape ≡ fed_all begun (pieces_of l.tape)
