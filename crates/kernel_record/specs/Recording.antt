-- What a kernel session puts on its tape (01, "The tape"): each accepted call's event, and the command or the decision after it.
-- The entries of a call all go on the tape, or none of them does (01, "When a call is turned away").
-- Assumes nothing.
use Rattle.std.specs.Prelude.{Bool, true, false, not, ◌&&◌, List, [], ◌∷◌, ℕ, ◌+◌, ◌*◌, eqb, leb, ltb, length, take}
use Rattle.slices.specs.Choice.{pick, first_of}
use Rattle.slices.specs.Writing.{put}
use Rattle.numbers.specs.Tables.{refused_entry, refused_room, command, decision, is_kind}
use Rattle.tape_read.specs.Entries.{Entry, entry, block_size, blocks_most, payload_most}
use Rattle.tape_read.specs.Tapes.{written}
use Rattle.tape_write.specs.declared.Writer.{Writer}
use Rattle.tape_write.specs.declared.Appended.{Appended}
use Rattle.session_state.specs.Results.{decision_in}
use Rattle.kernel.specs.declared.Session.{Session}
use Rattle.session_phase.specs.declared.Reply.{Reply}
use Rattle.session_phase.specs.declared.Reply.TheVariants.{Command, Due, Decided, Closed, Refused}

-- the entries of a call: its event, the reply, the command buffer and the session after it. A call that is turned away has none
unfoldable pub recorded : Entry → Reply → List ℕ → Session → List Entry
recorded event (Command n) buf s = event ∷ entry command (take n buf) ∷ []
recorded event (Due kind) buf s = event ∷ []
recorded event Decided buf s = event ∷ entry decision (decision_in s.state) ∷ []
recorded event Closed buf s = event ∷ []
recorded event (Refused n) buf s = []

-- 7: kind not 1-7 (02, R-7), or payload over 496
unfoldable pub wrong : Entry → Bool
wrong e = pick (is_kind e.kind) (ltb payload_most (length e.payload)) true

unfoldable pub any_wrong : List Entry → Bool
any_wrong [] = false
any_wrong (e ∷ es) = pick (wrong e) true (any_wrong es)

-- 8: after so many blocks used, no more than 1,024 in all, and 512 bytes for each
unfoldable pub has_room : ℕ → ℕ → List ℕ → Bool
has_room more used t = leb (used + more) blocks_most && leb ((used + more) * block_size) (length t)

-- the most blocks that one call can lead to
abbrev pub blocks_of_call : ℕ
blocks_of_call = 2

-- why the entries of a call are turned away, the first that applies to the call; 0: they are not
unfoldable pub tape_refusal : ℕ → List Entry → List ℕ → ℕ
tape_refusal used [] t = 0
tape_refusal used (e ∷ es) t = first_of ((any_wrong (e ∷ es), refused_entry) ∷ (not (has_room (length (e ∷ es)) used t), refused_room) ∷ [])

-- what is left at the end: the writer, the refusal if any, and the tape
pub record Kept : Type 0 where
  pub answer : Appended
  pub tape : List ℕ

unfoldable pub kept : Appended → List ℕ → Kept
kept r t = record { answer = r; tape = t }

-- all the blocks of a call, right after those used
unfoldable pub grown : Writer → List Entry → List ℕ → Kept
grown w es t =
    kept
    (record { writer = record { used = w.used + length es; session = w.session }; refusal = 0 })
    (put (written w.used w.session es) (w.used * block_size) t)

-- the entries of a call: all of them, or no change beside the refusal's number
unfoldable pub kept_all : Writer → List Entry → List ℕ → Kept
kept_all w es t =
    pick (eqb (tape_refusal w.used es t) 0) (grown w es t) (kept (record { writer = w; refusal = tape_refusal w.used es t }) t)
