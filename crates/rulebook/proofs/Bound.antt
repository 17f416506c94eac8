-- No session has more entries than 01 says, "The tape": no more come than can come where a session opens.
-- Assumes nothing.
use mathlib.Core.List.{List}
use Prim.Native.Nat.{◌≤◌}
use lib.ListN.{length}
use Rattle.tape_read.specs.Entries.{Entry}
use Rattle.sessions.proofs.Bound as Any
use Rattle.rulebook.specs.Session.{longest, Session}
use Rattle.rulebook.proofs.Coming.{to_come}
use Rattle.rulebook.proofs.Kept.{kept}

pub session_bound : (es : List Entry) → Session es → length es ≤ longest
unfolding kept to_come
session_bound es play = Any.session_bound kept es play
