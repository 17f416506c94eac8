-- A piece of a capture, byte by byte.
-- Assumes nothing.
use Rattle.std.specs.Prelude.{Result, Ok, Err, Bool, true, false, List, [], ◌∷◌, ℕ, ◌+◌, eqb}
use Rattle.slices.specs.Choice.{pick}
use Rattle.t0_state.specs.declared.State.{State}
use Rattle.t0_state.specs.declared.Refusal.{Refusal}
use Rattle.t0_state.specs.declared.Refusal.TheVariants.{Closed}
use Rattle.t0_state.specs.declared.Phase.{Phase}
use Rattle.t0_state.specs.declared.Phase.TheVariants.{Procedure, Length61, Length6C, Status, Data, Over}
use Rattle.t0_begin.specs.declared.Reply.{Reply}
use Rattle.t0_begin.specs.declared.Reply.TheVariants.{Go, Answer}
use Rattle.t0_begin.specs.Begin.{wait_for}
use Rattle.t0.specs.Steps.{Stepped, step_of}
use Rattle.t0_pieces.specs.declared.Taken.{Taken}

unfoldable pub is_over : Phase → Bool
is_over Procedure = false
is_over Length61 = false
is_over Length6C = false
is_over (Status a) = false
is_over (Data n) = false
is_over Over = true

unfoldable pub is_closed : State → Bool
is_closed s = is_over s.phase

-- what is said where no byte is there
unfoldable pub waiting_in : State → Result Reply Refusal
waiting_in s = pick (is_closed s) (Err Closed) (Ok (Go 0 (wait_for s.phase)))

-- nothing to send, and nothing has ended
unfoldable pub is_quiet : Result Reply Refusal → Bool
is_quiet (Ok (Go n w)) = eqb n 0
is_quiet (Ok (Answer n)) = false
is_quiet (Err why) = false

-- the exchange, how many bytes it took, what it says, and the two buffers
pub record Took : Type 0 where
  pub state : State
  pub taken : ℕ
  pub reply : Result Reply Refusal
  pub out : List ℕ
  pub answer : List ℕ

abbrev pub took : Taken → List ℕ → List ℕ → Took
took r out answer = record { state = r.state; taken = r.taken; reply = r.reply; out = out; answer = answer }

abbrev pub here : ℕ → State → List ℕ → List ℕ → Took
here n s out answer = record { state = s; taken = n; reply = waiting_in s; out = out; answer = answer }

abbrev pub ends : ℕ → Stepped → Took
ends n r = record { state = r.state; taken = n; reply = r.reply; out = r.out; answer = r.answer }

-- up to the first byte that brings something to send or ends the exchange, where n bytes were taken before
unfoldable pub takes_from : ℕ → State → List ℕ → List ℕ → List ℕ → Took
takes_from n s [] out answer = here n s out answer
takes_from n s (b ∷ piece) out answer =
    pick (is_closed s) (here n s out answer)
    (pick (is_quiet (step_of s b out answer).reply)
    (takes_from (n + 1) (step_of s b out answer).state piece (step_of s b out answer).out (step_of s b out answer).answer)
    (ends (n + 1) (step_of s b out answer)))

-- a whole piece, however many calls it takes: the exchange and the two buffers after its bytes, up to the end of the exchange
pub record Gone : Type 0 where
  pub state : State
  pub out : List ℕ
  pub answer : List ℕ

abbrev pub gone : State → List ℕ → List ℕ → Gone
gone s out answer = record { state = s; out = out; answer = answer }

unfoldable pub taken_all : State → List ℕ → List ℕ → List ℕ → Gone
taken_all s [] out answer = gone s out answer
taken_all s (b ∷ piece) out answer =
    pick (is_closed s) (gone s out answer)
    (taken_all (step_of s b out answer).state piece (step_of s b out answer).out (step_of s b out answer).answer)
