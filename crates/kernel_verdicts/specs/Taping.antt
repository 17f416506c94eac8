-- A kernel session together with its tape: calls, one after the other from a fresh session, each recorded as `record` of `kernel_record`
-- records it, on a tape that nothing was written on. 01, "The tape"; demands 2 and 3.
-- Assumes nothing.
use Rattle.std.specs.Prelude.{List, [], ◌∷◌, ℕ, ◌*◌, take}
use Rattle.tape_read.specs.Entries.{block_size}
use Rattle.tape_write.specs.Appending.{fresh}
use Rattle.kernel.specs.declared.Session.{Session}
use Rattle.kernel.specs.Calls.{Called, fresh_session}
use Rattle.kernel_laws.specs.Log.{Call, made}
use Rattle.kernel_record.specs.Recording.{Kept, kept, kept_all, recorded}

-- the session, and what its calls have left: the writer, the last call's refusal by the tape, and the tape
pub record Taped : Type 0 where
  pub session : Session
  pub kept : Kept

-- what `record` is handed: the event, and the reply, the command buffer and the session as the call left them
unfoldable pub taped_by : Taped → Call → Called → Taped
taped_by p c r = record {
  session = r.session;
  kept = kept_all p.kept.answer.writer (recorded c.event r.reply r.buffer r.session) p.kept.tape;
}

unfoldable pub taped : Taped → Call → Taped
taped p c = taped_by p c (made p.session c)

unfoldable pub taped_from : Taped → List Call → Taped
taped_from p [] = p
taped_from p (c ∷ cs) = taped_from (taped p c) cs

-- any calls, taken and turned away, on a fresh session with this number and this tape buffer
unfoldable pub recorded_all : ℕ → List ℕ → List Call → Taped
recorded_all number t cs = taped_from (record { session = fresh_session; kept = kept (record { writer = fresh number; refusal = 0 }) t }) cs

-- the tape itself: the blocks used, without the rest of the buffer
unfoldable pub tape_of : Kept → List ℕ
tape_of k = take (k.answer.writer.used * block_size) k.tape
