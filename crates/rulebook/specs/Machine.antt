-- The states of the machine that reads one entry at a time (Machine of sessions) under our rules. Nobody need believe it.
-- Assumes nothing.
use Rattle.sessions.specs.Machine as Under
pub use Rattle.sessions.specs.Machine.{at, owes, done}
use Rattle.rulebook.specs.Situation.{Situation}
use Rattle.rulebook.specs.Phase.{Asked, Heard}

abbrev pub Machine : Type 0
Machine = Under.Machine Asked Heard Situation
