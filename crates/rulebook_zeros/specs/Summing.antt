-- The sum entry by entry (Summing of verdict_under) under our rules: each entry that the machine takes adds what the command that is due
-- then lacks. Nobody need believe it: that it is the fourth number of any entries is proved there.
-- Assumes nothing.
use Rattle.std.specs.Prelude.{List, ℕ}
use Rattle.std.proofs.Math.Option.{Option}
use Rattle.tape_read.specs.Entries.{Entry}
use Rattle.rulebook.specs.Machine.{Machine}
use Rattle.rulebook.specs.Session.{rules}
use Rattle.verdict_under.specs.Summing as Under
use Rattle.rulebook_zeros.specs.Zeros.{unsupplied_in}

-- what the entry that led to a state added
abbrev pub new_in : Machine → ℕ
new_in = Under.new_in unsupplied_in

abbrev pub count_on : (Machine → ℕ) → Option Machine → ℕ
count_on = Under.count_on unsupplied_in

abbrev pub zeros_from : List Entry → Machine → ℕ
zeros_from = Under.zeros_from rules unsupplied_in

abbrev pub zeros_of : List Entry → ℕ
zeros_of = Under.zeros_of rules unsupplied_in
