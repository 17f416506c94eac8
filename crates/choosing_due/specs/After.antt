-- What is due after some entries by the rules with choosing the application (After of due_under). `DueAfter` says it over the sessions
-- that begin with them; `due_after` finds it with the machine of these rules, and nobody need believe that. 02, R-12.
-- Assumes nothing.
use Rattle.std.specs.Prelude.{List}
use Rattle.std.proofs.Math.Option.{Option}
use Rattle.tape_read.specs.Entries.{Entry}
use Rattle.rulebook_choosing.specs.Session.{rules}
use Rattle.rulebook_choosing.specs.Machine.{Machine}
use Rattle.due_under.specs.After as Under
pub use Rattle.due_under.specs.After.{command_due_lem, answer_due, word_due_lem, decision_due_lem, nothing_due}
use Rattle.choosing_due.specs.Due.{Due}

abbrev pub DueAfter : List Entry → Due → Type 0
DueAfter = Under.DueAfter rules

-- what is due in a state of the machine
abbrev pub due_at : Machine → Due
due_at = Under.due_at rules

abbrev pub due_in : Option Machine → Due
due_in = Under.due_in rules

abbrev pub due_after : List Entry → Due
due_after = Under.due_after rules
