-- What can be due on a tape by the rules of 01, and which entries fit it (Due of due_under). 01, "What the kernel plays and who decides"
-- and "The tape"; 02, R-7.
-- Assumes nothing.
use Rattle.std.specs.Prelude.{ℕ}
use Rattle.tape_read.specs.Entries.{Entry}
use Rattle.rulebook.specs.Phase.{Heard, terminal, says}
use Rattle.rulebook.specs.Turn.{wanted_in}
use Rattle.rulebook.specs.Session.{rules}
use Rattle.due_under.specs.Due as Under
pub use Rattle.due_under.specs.Due.{asking, answering, saying, deciding, nothing}

abbrev pub Due : Type 0
Due = Under.Due Heard

-- how many are wanted of what is counted in what somebody says; 0 where nothing is (02, R-7)
unfoldable pub count_in : Heard → ℕ
count_in terminal = 0
count_in (says word s) = wanted_in word s

-- the entries that fit. Where the card owes an answer a silence with no payload fits too, and closes the session
abbrev pub Fits : Due → Entry → Type 0
Fits = Under.Fits rules
