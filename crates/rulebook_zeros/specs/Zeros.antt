-- What was filled with zeros (02, R-6): how many entries of the object lists filled so far the terminal could not supply. The sum is
-- read off the rulebook's own sessions, beside them: no rule of theirs knows of it.
-- Assumes nothing.
use Rattle.std.specs.Prelude.{List, ℕ}
use Rattle.std.proofs.Math.Option.{none, some}
use Rattle.tape_read.specs.Entries.{Entry}
use Rattle.dol_fill.specs.Filled.{unsupplied}
use Rattle.rulebook.specs.Situation.{known_in, list_in}
use Rattle.rulebook.specs.Phase.{Asked, selecting, optioning, reading, first, second, Phase, asks, hears, decides}
use Rattle.rulebook.specs.Session.{rules, Plays}
use Rattle.verdict_under.specs.Counted as Under
pub use Rattle.verdict_under.specs.Counted.{lawful, broken}

-- no list has more entries: it has at most 252 bytes, and a tag and a length take two or more
abbrev pub most_entries : ℕ
most_entries = 126

-- the entries of a command's list that are not supplied: 9F38, 8C or 8D; SELECT and READ RECORD have no list
unfoldable pub unsupplied_asking : Asked → ℕ
unsupplied_asking (selecting s) = 0
unsupplied_asking (optioning s list) = unsupplied s.terminal (known_in s none) list
unsupplied_asking (reading s number file rest) = 0
unsupplied_asking (first s request) = unsupplied s.terminal (known_in s none) (list_in s 0x8C)
unsupplied_asking (second s request code) = unsupplied s.terminal (known_in s (some code)) (list_in s 0x8D)

-- and of the command that a phase makes due
unfoldable pub unsupplied_in : Phase → ℕ
unsupplied_in (asks w) = unsupplied_asking w
unsupplied_in (hears h) = 0
unsupplied_in (decides outcome reason s) = 0

-- what each entry of a session adds: a list is counted at the entry that makes its command due, and not at the command
abbrev pub added_by : {p : Phase} {es : List Entry} → Plays p es → List ℕ
added_by play = Under.added_by rules unsupplied_in play

-- the fourth number of any entries; where the rules are broken, the sum before the entry at which they are
abbrev pub Zeros : List Entry → ℕ → Type 0
Zeros = Under.Counts rules unsupplied_in
