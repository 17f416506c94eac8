-- The sum entry by entry (Summing of verdict_under) under the rules with choosing. Nobody need believe it.
-- Assumes nothing.
use Rattle.std.specs.Prelude.{List, ℕ}
use Rattle.std.proofs.Math.Option.{Option}
use Rattle.tape_read.specs.Entries.{Entry}
use Rattle.rulebook_choosing.specs.Machine.{Machine}
use Rattle.rulebook_choosing.specs.Session.{rules}
use Rattle.verdict_under.specs.Summing as Under
use Rattle.choosing_zeros.specs.Zeros.{unsupplied_later}

-- what the entry that led to a state added
abbrev pub new_in : Machine → ℕ
new_in = Under.new_in unsupplied_later

abbrev pub count_on : (Machine → ℕ) → Option Machine → ℕ
count_on = Under.count_on unsupplied_later

abbrev pub zeros_from : List Entry → Machine → ℕ
zeros_from = Under.zeros_from rules unsupplied_later

abbrev pub zeros_of : List Entry → ℕ
zeros_of = Under.zeros_of rules unsupplied_later
