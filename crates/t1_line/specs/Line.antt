-- A valid block where none of our requests is open. 000, I-5.2.4.3, I-5.2.4.4 and I-5.2.5.1; a valid block that the state does not
-- allow counts as invalid, with code 2.
-- Assumes nothing.
use Rattle.std.specs.Prelude.{Ok, Err, Bool, true, false, not, ℕ, ◌+◌, ltb}
use Rattle.slices.specs.Choice.{pick}
use Rattle.slices.specs.Tests.{between}
use Rattle.t1_block.specs.Faults.{Heard}
use Rattle.t1_block.specs.declared.What.{What}
use Rattle.t1_block.specs.declared.What.TheVariants.{Resynch, Ifs, Abort, Wtx}
use Rattle.t1_block.specs.declared.Kind.{Kind}
use Rattle.t1_block.specs.declared.Kind.TheVariants.{Information as I, Ready as R, Request as Asks, Response as Answers}
use Rattle.t1_state.specs.Limits.{message_most, piece_at, more_of}
use Rattle.t1_state.specs.Changes.{at_phase, sending, with_numbers, with_sizes, with_message, with_received}
use Rattle.t1_state.specs.declared.Phase.{Phase}
use Rattle.t1_state.specs.declared.Phase.TheVariants.{Start, Asking, Due, Sent, Receiving, Over}
use Rattle.t1_state.specs.declared.Last.TheVariants.{Information, Response}
use Rattle.t1_state.specs.declared.Message.{Message}
use Rattle.t1_state.specs.declared.State.{State}
use Rattle.t1_state.specs.declared.End.TheVariants.{Limit, Abort as Aborted}
use Rattle.t1_state.specs.declared.Act.TheVariants.{Keep, Value, Whole}
use Rattle.t1_state.specs.declared.Turn.{Turn}
use Rattle.t1_again.specs.Again.{goes_out, ended_by, ready_for, information_again, wrong, for_role}

-- the values that an IFS may have (000, I-5.2.4.2.1)
unfoldable pub is_ifs : ℕ → Bool
is_ifs v = between 0x10 0xFE v

-- an S(request) is answered by an S(response) with the same value
unfoldable pub answers : What → ℕ → State → Turn
answers w v s = record { state = sending (Response w v) s.counts s; act = Value }

-- IFS holds for blocks not yet sent; only a terminal is asked for more time or to abort
unfoldable pub on_request : What → ℕ → State → Turn
on_request Resynch v s = wrong 2 s
on_request Ifs v s = pick (is_ifs v) (answers Ifs v (with_sizes v s.sizes.ours s)) (wrong 2 s)
on_request Abort v s = for_role s.role (ended_by Aborted s) (wrong 2 s)
on_request Wtx v s = for_role s.role (answers Wtx v s) (wrong 2 s)

-- the next I-block: a piece of a message under our next number, out for the first time
unfoldable pub sends_piece : Message → State → State
sends_piece m s =
    sending Information (record { information = 1; same = s.counts.same })
    (at_phase Sent (with_message m (with_numbers (not s.numbers.next) s.numbers.expected s)))

-- the piece that is out has come: the one behind it
unfoldable pub sends_next : State → State
sends_next s = sends_piece (piece_at s.sizes.theirs (s.message.at + s.message.size) s.message) s

-- an R-block acknowledges our I-block by the number of the next one, and asks for it again by its own
unfoldable pub equal : Bool → Bool → Bool
equal a b = pick a b (not b)

abbrev pub is_sent : Phase → Bool
is_sent Start = false
is_sent Asking = false
is_sent Due = false
is_sent Sent = true
is_sent Receiving = false
is_sent Over = false

unfoldable pub on_ready : Bool → State → Turn
on_ready number s =
    pick (is_sent s.phase)
    (pick (equal number s.numbers.next) (pick (more_of s.message) (goes_out (sends_next s)) (wrong 2 s)) (information_again s))
    (wrong 2 s)

-- an I-block is due where ours is not one of a chain with more to come (000, I-5.2.4.4.1: chaining goes one way at a time)
abbrev pub takes_fields : Phase → Bool → Bool
takes_fields Start more = false
takes_fields Asking more = false
takes_fields Due more = false
takes_fields Sent more = not more
takes_fields Receiving more = true
takes_fields Over more = false

-- a field of so many bytes is kept: an R-block acknowledges it, or it is the last of its message
unfoldable pub keeps : Bool → ℕ → State → Turn
keeps more n s =
    pick more
    (record {
      state = ready_for 0 (at_phase Receiving
          (with_received (s.received + n) (with_numbers s.numbers.next (not s.numbers.expected) s)));
      act = Keep;
    })
    (record {
      state = at_phase Due (with_received 0 (with_numbers s.numbers.next (not s.numbers.expected) s));
      act = Whole (s.received + n);
    })

-- a message has at most so many bytes (house)
unfoldable pub on_information : Bool → Bool → ℕ → State → Turn
on_information number more n s =
    pick (takes_fields s.phase (more_of s.message))
    (pick (equal number s.numbers.expected)
    (pick (ltb message_most (s.received + n)) (ended_by Limit s) (keeps more n s)) (wrong 2 s)) (wrong 2 s)

-- a valid block, with the first byte of its field and the field's length
unfoldable pub on_kind : Kind → ℕ → ℕ → State → Turn
on_kind (I number more) v n s = on_information number more n s
on_kind (R number) v n s = on_ready number s
on_kind (Asks w) v n s = on_request w v s
on_kind (Answers w) v n s = wrong 2 s

unfoldable pub on_line : Heard → ℕ → ℕ → State → Turn
on_line (Ok kind) v n s = on_kind kind v n s
on_line (Err code) v n s = wrong code s
