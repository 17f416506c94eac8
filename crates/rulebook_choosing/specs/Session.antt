-- The rules with choosing the application as one value, and the sessions that they allow. What a session, a beginning or a break is under
-- rules is said in the crate sessions, once for all editions. 02, R-12; demand 3.
-- Assumes nothing.
use Rattle.std.specs.Prelude.{List, ℕ, ◌+◌, ◌*◌, ◌-◌}
use Rattle.tape_read.specs.Entries.{Entry}
use Rattle.answer_afl.specs.Entries.{most_records}
use Rattle.select_search.specs.Search.{most_exchanges}
use Rattle.sessions.specs.Rules.{Rules}
use Rattle.sessions.specs.Session as Under
pub use Rattle.sessions.specs.Session.{exchanged, heard, decided}
use Rattle.rulebook.specs.Situation.{Situation}
use Rattle.rulebook.specs.Later.{AskedLater, HeardLater, later}
use Rattle.rulebook_choosing.specs.Choosing.{Choosing, ChoosingPhase, choosing}

abbrev pub rules : Rules (AskedLater Choosing) (HeardLater Choosing) Situation
rules = later choosing

-- the entries from a phase on, to the end of the session
abbrev pub Plays : ChoosingPhase → List Entry → Type 0
Plays = Under.Plays rules

abbrev pub Session : List Entry → Type 0
Session = Under.Session rules

abbrev pub Beginning : List Entry → Type 0
Beginning = Under.Beginning rules

abbrev pub AwaitsCard : List Entry → Type 0
AwaitsCard = Under.AwaitsCard rules

abbrev pub Closed : List Entry → Type 0
Closed = Under.Closed rules

abbrev pub Open : List Entry → Type 0
Open = Under.Open rules

abbrev pub Lawful : List Entry → Type 0
Lawful = Under.Lawful rules

abbrev pub BreaksAt : List Entry → ℕ → Type 0
BreaksAt = Under.BreaksAt rules

abbrev pub Reads : List Entry → List ChoosingPhase → Type 0
Reads = Under.Reads rules

abbrev pub LeadsTo : List Entry → ChoosingPhase → Type 0
LeadsTo = Under.LeadsTo rules

-- the most choices of a selection. Each is followed by an exchange, which has one application less to offer when it fails; and by the time
-- that enough of them stand in the list, four records of the directory were read
abbrev pub most_choices : ℕ
most_choices = 94

-- no session has more entries (02, R-12, says at most 1,310): those of today, whose one SELECT is the first exchange of a selection; two for
-- each other exchange, and the choices
abbrev pub longest : ℕ
longest = 12 + 2 * most_records + 2 * (most_exchanges - 1) + most_choices
