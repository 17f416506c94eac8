-- What is proved of what is due by the rules with choosing (Theorem of due_under): START opens a tape. Demand 3; 02, R-12.
-- Assumes nothing.
use Rattle.rulebook.specs.Phase.{terminal}
use Rattle.rulebook.specs.Later.{HeardLater}
use Rattle.rulebook_choosing.specs.Session.{rules}
use Rattle.due_under.specs.Theorem as Under

abbrev pub MayFollow : Type 0
MayFollow = Under.MayFollow rules (HeardLater.was terminal)
