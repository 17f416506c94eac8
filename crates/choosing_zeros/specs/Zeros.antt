-- What was filled with zeros where the application is chosen (02, R-6 and R-12). The commands of a selection have no list; the list 9F38 of
-- the application that runs is counted once, at the answer that makes GPO due, and from there on all is counted as today.
-- Assumes nothing.
use Rattle.std.specs.Prelude.{List, ℕ}
use Rattle.tape_read.specs.Entries.{Entry}
use Rattle.sessions.specs.Rules.{asks, hears, decides}
use Rattle.rulebook.specs.Later.{AskedLater}
use Rattle.rulebook_choosing.specs.Choosing.{Choosing, ChoosingPhase}
use Rattle.rulebook_choosing.specs.Session.{rules, Plays}
use Rattle.rulebook_zeros.specs.Zeros.{unsupplied_asking}
use Rattle.verdict_under.specs.Counted as Under
pub use Rattle.verdict_under.specs.Counted.{lawful, broken}

-- the entries of a command's list that are not supplied
unfoldable pub unsupplied_asking_later : AskedLater Choosing → ℕ
unsupplied_asking_later (AskedLater.was w) = unsupplied_asking w
unsupplied_asking_later (AskedLater.new x) = 0

-- and of the command that a phase makes due
unfoldable pub unsupplied_later : ChoosingPhase → ℕ
unsupplied_later (asks w) = unsupplied_asking_later w
unsupplied_later (hears h) = 0
unsupplied_later (decides outcome reason s) = 0

-- what each entry of a session adds
abbrev pub added_by : {p : ChoosingPhase} {es : List Entry} → Plays p es → List ℕ
added_by play = Under.added_by rules unsupplied_later play

-- the fourth number of any entries; where the rules are broken, the sum before the entry at which they are
abbrev pub Zeros : List Entry → ℕ → Type 0
Zeros = Under.Counts rules unsupplied_later
