-- `takes` meets its contract: what is left of the piece is taken from where the exchange stands as the whole was from the start.
-- Assumes nothing.
use mathlib.Core.Path.{◌≡◌}
use lib.ListN.{drop}
use Rattle.t0_pieces.specs.Pieces.{takes_from}
use Rattle.t0_pieces.proofs.takes.Given as goal

abbrev pub invariant-loop-i : goal.invariant-loop-i
invariant-loop-i l =
    takes_from l.i l.state (drop l.i l.piece) l.out l.answer ≡ takes_from 0 l.initial.state l.piece l.initial.out l.initial.answer
