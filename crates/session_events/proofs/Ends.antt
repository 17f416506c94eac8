-- What ends a session, or leaves it as it is.
-- Assumes nothing.
use Rattle.session_moves.proofs.Moving.{stays, shuts}

pub ruleset ends = (stays, shuts)
