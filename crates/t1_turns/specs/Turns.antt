-- An event at one end, by what the end waits for. 000, I-5.2.4.3 to I-5.2.5.1.
-- Assumes nothing.
use Rattle.std.specs.Prelude.{Bool, true, false, List, ℕ, length, get_or}
use Rattle.slices.specs.Choice.{pick}
use Rattle.slices.specs.Tests.{between}
use Rattle.slices.specs.Writing.{laid, zeros}
use Rattle.t1_block.specs.Blocks.{len_of}
use Rattle.t1_block.specs.Faults.{Heard, heard_of}
use Rattle.t1_block.specs.declared.What.{What}
use Rattle.t1_block.specs.declared.What.TheVariants.{Resynch, Ifs, Abort, Wtx}
use Rattle.t1_state.specs.Limits.{message_most, piece_at}
use Rattle.t1_state.specs.Changes.{at_phase, sending}
use Rattle.t1_state.specs.declared.Phase.{Phase}
use Rattle.t1_state.specs.declared.Phase.TheVariants.{Start, Asking, Due, Sent, Receiving, Over}
use Rattle.t1_state.specs.declared.Last.TheVariants.{Request}
use Rattle.t1_state.specs.declared.Message.{Message}
use Rattle.t1_state.specs.declared.State.{State}
use Rattle.t1_state.specs.declared.End.TheVariants.{Silence}
use Rattle.t1_state.specs.declared.Refusal.TheVariants.{Closed, NotDue, Value, Message as NoMessage}
use Rattle.t1_state.specs.declared.Turn.{Turn}
use Rattle.t1_again.specs.Again.{goes_out, ended_by, refused_as, for_role}
use Rattle.t1_line.specs.Line.{is_ifs, sends_piece, on_line}
use Rattle.t1_asking.specs.Asking.{on_asking}

-- a block received, with the first byte of its field and the field's length
unfoldable pub by_phase : Phase → Heard → ℕ → ℕ → State → Turn
by_phase Start heard v n s = refused_as NotDue s
by_phase Asking heard v n s = on_asking heard v s
by_phase Due heard v n s = refused_as NotDue s
by_phase Sent heard v n s = on_line heard v n s
by_phase Receiving heard v n s = on_line heard v n s
by_phase Over heard v n s = refused_as Closed s

unfoldable pub on_block : List ℕ → State → Turn
on_block b s = by_phase s.phase (heard_of b s.sizes.ours) (get_or b 3 0) (len_of b) s

-- no block came in time: that ends the session at once
unfoldable pub silent_in : Phase → State → Turn
silent_in Start s = refused_as NotDue s
silent_in Asking s = ended_by Silence s
silent_in Due s = refused_as NotDue s
silent_in Sent s = ended_by Silence s
silent_in Receiving s = ended_by Silence s
silent_in Over s = refused_as Closed s

unfoldable pub on_silence : State → Turn
on_silence s = silent_in s.phase s

-- a request of our own goes out
unfoldable pub asks_for : What → ℕ → State → State
asks_for w v s = sending (Request w v) (record { information = s.counts.information; same = 1 }) (at_phase Asking s)

-- the terminal's first block: S(IFS request) for 254 (000, I-5.2.4.2.1)
unfoldable pub hello_in : Phase → State → Turn
hello_in Start s = goes_out (asks_for Ifs 0xFE s)
hello_in Asking s = refused_as NotDue s
hello_in Due s = refused_as NotDue s
hello_in Sent s = refused_as NotDue s
hello_in Receiving s = refused_as NotDue s
hello_in Over s = refused_as Closed s

unfoldable pub on_hello : State → Turn
on_hello s = hello_in s.phase s

-- a card may ask for another size or for time before its answer
abbrev pub may_ask : What → ℕ → Bool
may_ask Resynch v = false
may_ask Ifs v = is_ifs v
may_ask Abort v = false
may_ask Wtx v = true

unfoldable pub card_asks : What → ℕ → State → Turn
card_asks w v s = pick (may_ask w v) (goes_out (asks_for w v s)) (refused_as Value s)

unfoldable pub ask_in : Phase → What → ℕ → State → Turn
ask_in Start w v s = refused_as NotDue s
ask_in Asking w v s = refused_as NotDue s
ask_in Due w v s = for_role s.role (refused_as NotDue s) (card_asks w v s)
ask_in Sent w v s = refused_as NotDue s
ask_in Receiving w v s = refused_as NotDue s
ask_in Over w v s = refused_as Closed s

unfoldable pub on_ask : What → ℕ → State → Turn
on_ask w v s = ask_in s.phase w v s

-- a message with zeros behind it, its first piece out
unfoldable pub message_of : ℕ → List ℕ → Message
message_of theirs m =
    piece_at theirs 0 (record { bytes = laid m 0 (zeros message_most); length = length m; at = 0; size = 0 })

unfoldable pub sends_message : List ℕ → State → Turn
sends_message m s = pick (between 1 message_most (length m)) (goes_out (sends_piece (message_of s.sizes.theirs m) s))
    (refused_as NoMessage s)

unfoldable pub send_in : Phase → List ℕ → State → Turn
send_in Start m s = refused_as NotDue s
send_in Asking m s = refused_as NotDue s
send_in Due m s = sends_message m s
send_in Sent m s = refused_as NotDue s
send_in Receiving m s = refused_as NotDue s
send_in Over m s = refused_as Closed s

unfoldable pub on_send : List ℕ → State → Turn
on_send m s = send_in s.phase m s
