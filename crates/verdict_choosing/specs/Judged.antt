-- The verdict of a tape by the rules with choosing the application (02, R-12; demand 3): what `JudgedUnder` of verdict_under says of any
-- rules, said of these.
-- Assumes nothing.
use Rattle.std.specs.Prelude.{List, ℕ}
use Rattle.tape_read.specs.Entries.{Entry}
use Rattle.rulebook_choosing.specs.Session.{rules}
use Rattle.verdict.specs.declared.Ruling.{Ruling}
use Rattle.verdict_under.specs.Judged.{JudgesUnder, JudgedUnder}
pub use Rattle.verdict_under.specs.Judged.{passes, undecided, fails, readable, damaged}

-- the answer for a tape that reads as these entries
abbrev pub Judges : List Entry → Ruling → Type 0
Judges = JudgesUnder rules

-- and for any bytes
abbrev pub Judged : List ℕ → Ruling → Type 0
Judged = JudgedUnder rules
