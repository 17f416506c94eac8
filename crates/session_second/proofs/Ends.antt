-- What a decision makes of a session.
-- Assumes nothing.
use Rattle.session_moves.proofs.Moving.{late_decided}

pub ruleset decisions = (late_decided)
