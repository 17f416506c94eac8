-- The calls. An event is handed in as an entry. It is turned away with the first number of 01, "When a call is turned away", that
-- applies, and then nothing changes; otherwise it is a step of the session, and a silence closes it.
-- Assumes nothing.
use Rattle.std.specs.Prelude.{List, ℕ, eqb}
use Rattle.slices.specs.Choice.{pick}
use Rattle.dol_fill.specs.Filled.{summed}
use Rattle.numbers.specs.Tables.{silence}
use Rattle.tape_read.specs.Entries.{Entry}
use Rattle.session_phase.specs.declared.Reply.{Reply}
use Rattle.session_phase.specs.declared.Reply.TheVariants.{Refused, Closed as ClosedReply}
use Rattle.session_phase.specs.declared.Waiting.TheVariants.{Closed}
use Rattle.session_state.specs.Keeping.{changed, fresh as fresh_state}
use Rattle.session_state.specs.declared.State.{State}
use Rattle.session_moves.specs.Moves.{Moved}
use Rattle.session_events.specs.Events.{step}
use Rattle.kernel_refusals.specs.Refusals.{call_refusal}
use Rattle.kernel.specs.declared.Session.{Session}
use Rattle.kernel.specs.declared.Step.{Step}

-- what a call leaves behind: the session, the reply, and the lent command buffer
pub record Called : Type 0 where
  pub session : Session
  pub reply : Reply
  pub buffer : List ℕ

unfoldable pub called : Step → List ℕ → Called
called r out = record { session = r.session; reply = r.reply; buffer = out }

-- a call that is turned away changes nothing
unfoldable pub refused : ℕ → Session → List ℕ → Called
refused n s buf = record { session = s; reply = Refused n; buffer = buf }

-- beside the entries filled with zeros so far
unfoldable pub accepted : ℕ → Moved → Called
accepted before m =
    record { session = record { state = m.state; zeros = summed before m.zeros }; reply = m.reply; buffer = m.buffer }

-- silence closes the session without decision; nothing else changes
unfoldable pub closed_state : State → State
closed_state s = changed Closed s.tvr s.tsi s.cursor s

unfoldable pub closed_after : Session → List ℕ → Called
closed_after s buf = record { session = record { state = closed_state s.state; zeros = s.zeros }; reply = ClosedReply; buffer = buf }

-- an event that is taken
unfoldable pub taken : Session → Entry → List ℕ → Called
taken s e buf = pick (eqb e.kind silence) (closed_after s buf) (accepted s.zeros (step s.state e.payload buf))

unfoldable pub unless : ℕ → Session → List ℕ → Called → Called
unless n s buf took = pick (eqb n 0) took (refused n s buf)

unfoldable pub call : Session → Entry → List ℕ → Called
call s e buf = unless (call_refusal s.state.waiting e buf) s buf (taken s e buf)

unfoldable pub fresh_session : Session
fresh_session = record { state = fresh_state; zeros = 0 }
