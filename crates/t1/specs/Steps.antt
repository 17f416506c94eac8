-- One event at one end: the end afterwards, its reply, the block to send, and what belongs to the message that comes in.
-- Assumes nothing.
use Rattle.std.specs.Prelude.{true, false, not, List, [], ◌∷◌, ℕ, length, take, drop}
use Rattle.slices.specs.Writing.{laid, zeros}
use Rattle.t1_block.specs.Blocks.{inf_of, pcb_of_i, pcb_of_s, written}
use Rattle.t1_block.specs.declared.What.{What}
use Rattle.t1_state.specs.Limits.{message_most, more_of}
use Rattle.t1_state.specs.declared.Role.{Role}
use Rattle.t1_state.specs.declared.Role.TheVariants.{Terminal, Card}
use Rattle.t1_state.specs.declared.Phase.{Phase}
use Rattle.t1_state.specs.declared.Phase.TheVariants.{Start, Receiving}
use Rattle.t1_state.specs.declared.Last.{Last}
use Rattle.t1_state.specs.declared.Last.TheVariants.{Nothing, Information, Ready, Request, Response}
use Rattle.t1_state.specs.declared.State.{State}
use Rattle.t1_state.specs.declared.Act.{Act}
use Rattle.t1_state.specs.declared.Act.TheVariants.{Send, Keep, Value, Whole, Refuse, Nothing as Quiet, End as Ends}
use Rattle.t1_state.specs.declared.Turn.{Turn}
use Rattle.t1_turns.specs.Turns.{on_block, on_silence, on_hello, on_ask, on_send}
use Rattle.t1.specs.declared.Reply.{Reply}
use Rattle.t1.specs.declared.Reply.TheVariants.{Nothing as NothingSent, Send as Sent, Took, Whole as Complete, End as Ended, Refused}
use Rattle.t1.specs.declared.Step.{Step}

-- what can happen at an end: a block comes, or none in time; the terminal's first request; a card's request; a message to send
pub data Event : Type 0 where
  block : List ℕ → Event
  silence : Event
  hello : Event
  ask : What → ℕ → Event
  send : List ℕ → Event

unfoldable pub turn_of : Event → State → Turn
turn_of (block b) s = on_block b s
turn_of silence s = on_silence s
turn_of hello s = on_hello s
turn_of (ask w v) s = on_ask w v s
turn_of (send m) s = on_send m s

-- the field of the block that came
unfoldable pub field_of : Event → List ℕ
field_of (block b) = inf_of b
field_of silence = []
field_of hello = []
field_of (ask w v) = []
field_of (send m) = []

-- the block that is out, from its kind and what the state keeps; so a block that goes out again is the same block
unfoldable pub block_for : Last → State → List ℕ
block_for Nothing s = []
block_for Information s =
    written (pcb_of_i (not s.numbers.next) (more_of s.message)) (take s.message.size (drop s.message.at s.message.bytes))
block_for (Ready pcb) s = written pcb []
block_for (Request w v) s = written (pcb_of_s false w) (v ∷ [])
block_for (Response w v) s = written (pcb_of_s true w) (v ∷ [])

unfoldable pub block_of : State → List ℕ
block_of s = block_for s.last s

-- what is sent
unfoldable pub sent_by : Act → State → List ℕ
sent_by Quiet s = []
sent_by Send s = block_of s
sent_by Keep s = block_of s
sent_by Value s = block_of s
sent_by (Whole n) s = []
sent_by (Ends e) s = []
sent_by (Refuse why) s = []

-- what belongs to the message that comes in
unfoldable pub kept_by : Act → List ℕ → List ℕ
kept_by Quiet inf = []
kept_by Send inf = []
kept_by Keep inf = inf
kept_by Value inf = []
kept_by (Whole n) inf = inf
kept_by (Ends e) inf = []
kept_by (Refuse why) inf = []

-- the reply, where so many bytes are sent and the block's field had so many
abbrev pub reply_to : Act → ℕ → ℕ → Reply
reply_to Quiet sent inf = NothingSent
reply_to Send sent inf = Sent sent
reply_to Keep sent inf = Took sent inf
reply_to Value sent inf = Took sent inf
reply_to (Whole n) sent inf = Complete n inf
reply_to (Ends e) sent inf = Ended e
reply_to (Refuse why) sent inf = Refused why

unfoldable pub done_by : Turn → ℕ → Step
done_by t inf = record { state = t.state; reply = reply_to t.act (length (sent_by t.act t.state)) inf }

-- one event, one step
unfoldable pub step_of : State → Event → Step
step_of s e = done_by (turn_of e s) (length (field_of e))

-- the room for what is sent, and that for the message that comes in, afterwards
unfoldable pub out_after : State → Event → List ℕ → List ℕ
out_after s e out = laid (sent_by (turn_of e s).act (turn_of e s).state) 0 out

unfoldable pub message_after : State → Event → List ℕ → List ℕ
message_after s e message = laid (kept_by (turn_of e s).act (field_of e)) s.received message

-- an end at the beginning: the terminal speaks first (000, I-5.2.4.3)
abbrev pub first_phase : Role → Phase
first_phase Terminal = Start
first_phase Card = Receiving

unfoldable pub fresh_end : Role → ℕ → ℕ → State
fresh_end role theirs ours =
    record {
      role = role;
      phase = first_phase role;
      last = Nothing;
      numbers = record { next = false; expected = false };
      sizes = record { theirs = theirs; ours = ours };
      counts = record { information = 0; same = 0 };
      message = record { bytes = zeros message_most; length = 0; at = 0; size = 0 };
      received = 0;
    }
