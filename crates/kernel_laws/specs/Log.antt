-- A session of the kernel seen from outside: calls, one after the other from a fresh session, each an event with the buffer lent for it,
-- and the log of what was accepted, with the commands as they stand in the buffers handed back. 01, "What the kernel plays and who
-- decides"; demand 2.
-- Assumes nothing.
use Rattle.std.specs.Prelude.{Bool, true, ◌&&◌, List, [], ◌∷◌, ◌++◌, ℕ, take}
use Rattle.std.proofs.Math.Pow.{are_bytes}
use Rattle.numbers.specs.Tables.{command, decision}
use Rattle.tape_read.specs.Entries.{Entry, entry}
use Rattle.session_phase.specs.declared.Reply.{Reply}
use Rattle.session_phase.specs.declared.Reply.TheVariants.{Command, Due, Decided, Closed, Refused}
use Rattle.session_state.specs.Results.{decision_in}
use Rattle.kernel.specs.declared.Session.{Session}
use Rattle.kernel.specs.Calls.{Called, call, fresh_session}

-- what a call hands in: the event as an entry, and the command buffer as it is lent
pub record Call : Type 0 where
  pub event : Entry
  pub buffer : List ℕ

-- the kernel's own call
unfoldable pub made : Session → Call → Called
made s c = call s c.event c.buffer

-- an accepted event and what it brings about; the command is the first bytes of the buffer that is handed back
unfoldable pub logged : Reply → Called → Entry → List Entry
logged (Command n) r e = e ∷ entry command (take n r.buffer) ∷ []
logged (Due kind) r e = e ∷ []
logged Decided r e = e ∷ entry decision (decision_in r.session.state) ∷ []
logged Closed r e = e ∷ []
logged (Refused n) r e = []

unfoldable pub logged_by : Called → Entry → List Entry
logged_by r e = logged r.reply r e

-- the session after some calls, and its log
pub record Played : Type 0 where
  pub session : Session
  pub log : List Entry

unfoldable pub after : Played → Call → Played
after p c = record { session = (made p.session c).session; log = p.log ++ logged_by (made p.session c) c.event }

unfoldable pub plays_from : Played → List Call → Played
plays_from p [] = p
plays_from p (c ∷ cs) = plays_from (after p c) cs

unfoldable pub plays : List Call → Played
plays cs = plays_from (record { session = fresh_session; log = [] }) cs

-- what is handed in are bytes
unfoldable pub all_bytes : List Call → Bool
all_bytes [] = true
all_bytes (c ∷ cs) = are_bytes c.event.payload && all_bytes cs
