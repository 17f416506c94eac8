-- How the verdict is found by the rules of 01: the entries of a tape read one by one (Progress of verdict_under). Nobody need believe it.
-- Assumes nothing.
use Rattle.std.specs.Prelude.{List, ℕ}
use Rattle.tape_read.specs.Entries.{Entry}
use Rattle.tape_read.specs.Tapes.{Reading}
use Rattle.rulebook.specs.Situation.{Situation}
use Rattle.rulebook.specs.Phase.{Asked, Heard}
use Rattle.rulebook.specs.Session.{rules}
use Rattle.rulebook_zeros.specs.Zeros.{unsupplied_in}
use Rattle.verdict.specs.declared.Ruling.{Ruling}
use Rattle.verdict_under.specs.Progress as Under
pub use Rattle.verdict_under.specs.Progress.{reached, closed, broken}
unfoldable pub use Rattle.verdict_under.specs.Progress.{empty, closes, onward, concluded}

abbrev pub Progress : Type 0
Progress = Under.Progress Asked Heard Situation

-- before any entry
abbrev pub begun : Progress
begun = Under.begun rules

-- one entry further, and several
abbrev pub reads : Progress → Entry → Progress
reads = Under.reads rules

abbrev pub reads_all : Progress → List Entry → Progress
reads_all = Under.reads_all rules

abbrev pub progress_of : List Entry → Progress
progress_of = Under.progress_of rules

-- what the last entry added to the number of list entries filled with zeros
abbrev pub new_by : Progress → ℕ
new_by = Under.new_by unsupplied_in

-- what is said in the end, where the rest of a tape reads as this
abbrev pub finally : Progress → Reading → Ruling
finally = Under.finally rules

-- the verdict of a tape
abbrev pub verdict_of : List ℕ → Ruling
verdict_of = Under.verdict_of rules
