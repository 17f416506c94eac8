-- `Bench::card` meets its contract: what is left of the piece comes, from where the exchange stands, to what the whole came to. Each call
-- takes a byte, where the exchange goes on. Assumes nothing.
use Rattle.std.proofs.Common.{length, ◌≡◌}
use Rattle.t0_pieces.specs.Pieces.{taken_all}
use Rattle.exchange_t0.proofs.turn.Bench.card.Given as goal

abbrev pub invariant-loop-self : goal.invariant-loop-self
invariant-loop-self g l =
    taken_all l.self.state l.rest l.self.out l.self.answer
    ≡ taken_all l.fn.self.state l.piece l.fn.self.out l.fn.self.answer

abbrev pub decreases-loop-self : goal.decreases-loop-self
decreases-loop-self g l = length l.rest
