-- What is proved of what is due by the rules of 01 (Theorem of due_under): it is a statement about the rulebook, and START opens a tape.
-- Demand 3.
-- Assumes nothing.
use Rattle.rulebook.specs.Phase.{terminal}
use Rattle.rulebook.specs.Session.{rules}
use Rattle.due_under.specs.Theorem as Under

abbrev pub MayFollow : Type 0
MayFollow = Under.MayFollow rules terminal
