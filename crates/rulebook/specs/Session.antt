-- The rules of 01 as one value, and the sessions that they allow: commands and answers in turn, what somebody else says where it is due
-- (START first), DECISION last. What a session, a beginning or a break is under rules is said in the crate sessions, once for all editions;
-- its names stand here for these rules. 01, "What the kernel plays and who decides"; demand 3.
-- Assumes nothing.
use Rattle.std.specs.Prelude.{List, ℕ, ◌+◌, ◌*◌}
use Rattle.tape_read.specs.Entries.{Entry}
use Rattle.answer_afl.specs.Entries.{most_records}
use Rattle.sessions.specs.Rules.{Rules}
use Rattle.sessions.specs.Session as Under
pub use Rattle.sessions.specs.Session.{exchanged, heard, decided}
use Rattle.rulebook.specs.Situation.{Situation}
use Rattle.rulebook.specs.Phase.{Asked, Heard, Phase, opens, command_of, due_kind, decision_of}
use Rattle.rulebook.specs.Turn.{turn, allowed, after}

-- the rules: `Phase` says what is due and how it is asked, `Turn` how it goes on
abbrev pub rules : Rules Asked Heard Situation
rules =
    record {
      opens = opens;
      command_of = command_of;
      turn = turn;
      due_kind = due_kind;
      allowed = allowed;
      after = after;
      decision_of = decision_of;
    }

-- the entries from a phase on, to the end of the session
abbrev pub Plays : Phase → List Entry → Type 0
Plays = Under.Plays rules

abbrev pub Session : List Entry → Type 0
Session = Under.Session rules

-- no session has more entries (01, "The tape"; 02, R-7 and R-8): START; SELECT, GPO and two requests, each with its answer; HOST, the
-- results of cardholder verification, DECISION; and each record with its answer
abbrev pub longest : ℕ
longest = 12 + 2 * most_records

-- an unfinished beginning: something is left to come
abbrev pub Beginning : List Entry → Type 0
Beginning = Under.Beginning rules

-- a beginning that waits for the card's answer
abbrev pub AwaitsCard : List Entry → Type 0
AwaitsCard = Under.AwaitsCard rules

-- one closing silence after a beginning that waits for the card
abbrev pub Closed : List Entry → Type 0
Closed = Under.Closed rules

-- what a session can be while it is not finished
abbrev pub Open : List Entry → Type 0
Open = Under.Open rules

-- no rule is broken: finished, or open
abbrev pub Lawful : List Entry → Type 0
Lawful = Under.Lawful rules

-- the entry, counted from 0, at which the rules are first broken (demand 3)
abbrev pub BreaksAt : List Entry → ℕ → Type 0
BreaksAt = Under.BreaksAt rules

-- the phases that are passed while entries are read
abbrev pub Reads : List Entry → List Phase → Type 0
Reads = Under.Reads rules

-- entries lead to a phase: the last of those that are passed while they are read
abbrev pub LeadsTo : List Entry → Phase → Type 0
LeadsTo = Under.LeadsTo rules
