-- What can be due on a tape by the rules with choosing the application, and which entries fit it (Due of due_under). 02, R-12.
-- Assumes nothing.
use Rattle.std.specs.Prelude.{ℕ}
use Rattle.tape_read.specs.Entries.{Entry}
use Rattle.select_list.specs.Order.{shown_of}
use Rattle.rulebook.specs.Later.{HeardLater}
use Rattle.rulebook_due.specs.Due as Today
use Rattle.rulebook_choosing.specs.Choosing.{Choosing}
use Rattle.rulebook_choosing.specs.Session.{rules}
use Rattle.due_under.specs.Due as Under
pub use Rattle.due_under.specs.Due.{asking, answering, saying, deciding, nothing}

abbrev pub Due : Type 0
Due = Under.Due (HeardLater Choosing)

-- how many are wanted of what is counted in what somebody says, as today; of a choice, among how many it is made
unfoldable pub count_in : HeardLater Choosing → ℕ
count_in (HeardLater.was h) = Today.count_in h
count_in (HeardLater.new x) = shown_of x.search.list

abbrev pub Fits : Due → Entry → Type 0
Fits = Under.Fits rules
