-- No session has more entries than can come where it opens: each turn takes its own entries off what can still come, and a decision has
-- one left.
-- Assumes nothing.
use mathlib.Core.List.{List, []}
use Prim.Native.Nat.{◌≤◌}
use native.Mathlib.Omega.{arith}
use lib.ListN.{length}
use Rattle.tape_read.specs.Entries.{Entry}
use Rattle.sessions.specs.Rules.{Phase, asks, hears, decides, Rules}
use Rattle.sessions.specs.Session.{Plays, exchanged, heard, decided, Session}
use Rattle.sessions.specs.Kept.{Kept}

module _ {A H S : Type 0} {rules : Rules A H S} (kept : Kept rules) where
  open rules use {opens}
  open kept use {can_say, to_come, turn_fewer, after_fewer, decision_left}

  -- each phase leaves something to come
  pub some_come : (p : Phase A H S) → 1 ≤ to_come p
  some_come (asks w) = let fewer = turn_fewer w [] in omega arith
  some_come (hears h) = let said = can_say h in let fewer = after_fewer h said.0 said.1.0 in omega arith
  some_come (decides outcome reason s) = decision_left outcome reason s

  -- no more entries than can come
  plays_few : {p : Phase A H S} {es : List Entry} → Plays rules p es → length es ≤ to_come p
  plays_few (exchanged {w} {a} f ok play) = let h = plays_few play in let fewer = turn_fewer w a in omega arith
  plays_few (heard {h} {p} f fits ok play) = let few = plays_few play in let fewer = after_fewer h p fits in omega arith
  plays_few (decided {outcome} {reason} {s} f) = decision_left outcome reason s

  -- the bound
  pub session_bound : (es : List Entry) → Session rules es → length es ≤ to_come opens
  unfolding Session
  session_bound es play = plays_few play
