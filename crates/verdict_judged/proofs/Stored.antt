-- A session of 01 fits a tape, so all that is said of stored sessions holds of it (Stored of verdict_under).
-- Assumes nothing.
use mathlib.Core.List.{List}
use Prim.Native.Nat.{◌≤◌}
use native.Mathlib.Omega.{arith}
use lib.ListN.{length}
use Rattle.tape_read.specs.Entries.{Entry, blocks_most}
use Rattle.rulebook.specs.Session.{Session}
use Rattle.rulebook.proofs.Bound.{session_bound}

pub session_fits : (es : List Entry) → Session es → length es ≤ blocks_most
session_fits es s = omega (arith, session_bound es s)
