-- Where a session goes on: the state that waits for what a phase of the rulebook waits for, the reply to the call, and the command in
-- the lent buffer. The rules are the rulebook's; what is added here is where a state keeps their results.
-- Assumes nothing.
use Rattle.std.specs.Prelude.{List, ℕ, length}
use Rattle.slices.specs.Writing.{laid}
use Rattle.numbers.specs.Tables.{refused_event}
use Rattle.commands.specs.Commands.{size_in}
use Rattle.answer_afl.specs.Cursor.{stepped}
use Rattle.answer_afl.specs.declared.cursor.Cursor.{Cursor}
use Rattle.rulebook.specs.Phase.{Asked, selecting, optioning, reading, first, second, Heard, terminal, says}
use Rattle.rulebook.specs.Phase.{Phase, asks, hears, decides, command_of, due_kind, tvr_of, tsi_of}
use Rattle.rulebook.specs.Turn.{wanted_in}
use Rattle.rulebook_zeros.specs.Zeros.{unsupplied_in}
use Rattle.session_phase.specs.declared.Question.{Question}
use Rattle.session_phase.specs.declared.Question.TheVariants.{Select, Options, Record, First, Second}
use Rattle.session_phase.specs.declared.Speaker.{Speaker}
use Rattle.session_phase.specs.declared.Speaker.TheVariants.{Terminal, Says}
use Rattle.session_phase.specs.declared.Waiting.{Waiting}
use Rattle.session_phase.specs.declared.Waiting.TheVariants.{ForCard, ForWord, Decided, Closed}
use Rattle.session_phase.specs.declared.Reply.{Reply}
use Rattle.session_phase.specs.declared.Reply.TheVariants.{Command, Due, Decided as DecidedReply, Closed as ClosedReply, Refused}
use Rattle.session_records.specs.Runs.{in_run}
use Rattle.session_state.specs.Keeping.{changed}
use Rattle.session_state.specs.declared.State.{State}
use Rattle.session_moves.specs.declared.Step.{Step}

-- what a step leaves behind: the state, the reply, the lent buffer, and what it adds to the number of entries filled with zeros
pub record Moved : Type 0 where
  pub state : State
  pub reply : Reply
  pub buffer : List ℕ
  pub zeros : ℕ

unfoldable pub played : Step → List ℕ → Moved
played r out = record { state = r.state; reply = r.reply; buffer = out; zeros = r.zeros }

-- what a state keeps of a phase: whose word is due, and which of the card's answers
unfoldable pub question_of : Asked → Question
question_of (selecting s) = Select
question_of (optioning s list) = Options
question_of (reading s number file rest) = Record
question_of (first s request) = First request
question_of (second s request code) = Second request

unfoldable pub speaker_of : Heard → Speaker
speaker_of terminal = Terminal
speaker_of (says word s) = Says word (wanted_in word s)

unfoldable pub kept_as : Phase → Waiting
kept_as (asks w) = ForCard (question_of w)
kept_as (hears h) = ForWord (speaker_of h)
kept_as (decides outcome reason s) = Decided outcome reason

-- asking for a record takes the place among the records one further
unfoldable pub cursor_asking : Asked → State → Cursor
cursor_asking (selecting z) s = s.cursor
cursor_asking (optioning z list) s = s.cursor
cursor_asking (reading z number file rest) s = stepped (in_run s.locator) s.cursor
cursor_asking (first z request) s = s.cursor
cursor_asking (second z request code) s = s.cursor

unfoldable pub cursor_after : Phase → State → Cursor
cursor_after (asks w) s = cursor_asking w s
cursor_after (hears h) s = s.cursor
cursor_after (decides outcome reason z) s = s.cursor

-- the state in which a phase is waited for
unfoldable pub standing : Phase → State → State
standing p s = changed (kept_as p) (tvr_of p) (tsi_of p) (cursor_after p s) s

-- a command of so many bytes, the kind of the entry that has somebody else's word, or that the session is decided
unfoldable pub reply_in : ℕ → Phase → Reply
reply_in room (asks w) = Command (size_in room (command_of w))
reply_in room (hears h) = Due (due_kind h)
reply_in room (decides outcome reason s) = DecidedReply

-- a command is written at the start of the buffer, where it fits; nothing else changes the buffer
unfoldable pub buffer_in : Phase → List ℕ → List ℕ
buffer_in (asks w) buf = laid (command_of w) 0 buf
buffer_in (hears h) buf = buf
buffer_in (decides outcome reason s) buf = buf

unfoldable pub moved : Phase → State → List ℕ → Moved
moved p s buf = record { state = standing p s; reply = reply_in (length buf) p; buffer = buffer_in p buf; zeros = unsupplied_in p }

-- a session that is over takes nothing: the event is not the one due (01, "When a call is turned away", 4), and nothing changes
unfoldable pub unmoved : State → List ℕ → Moved
unmoved s buf = record { state = s; reply = Refused refused_event; buffer = buf; zeros = 0 }

-- a selection is no part of these rules: a session that waits for it is closed
unfoldable pub shut : State → List ℕ → Moved
shut s buf = record { state = changed Closed s.tvr s.tsi s.cursor s; reply = ClosedReply; buffer = buf; zeros = 0 }

-- the same state, but for what is waited for
unfoldable pub waiting_for : Waiting → Reply → State → Step
waiting_for waiting reply s = record { state = changed waiting s.tvr s.tsi s.cursor s; reply = reply; zeros = 0 }

-- the same with a command out
unfoldable pub asked_for : Question → ℕ → ℕ → State → Step
asked_for question n zeros s =
    record { state = changed (ForCard question) s.tvr s.tsi s.cursor s; reply = Command n; zeros = zeros }
