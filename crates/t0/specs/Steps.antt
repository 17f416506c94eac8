-- One byte of the card's, with what is to be sent and what belongs to the answer.
-- Assumes nothing.
use Rattle.std.specs.Prelude.{Result, Ok, Err, List, [], ◌∷◌, ℕ, ◌+◌, length, take, drop}
use Rattle.slices.specs.Writing.{laid}
use Rattle.t0_state.specs.declared.State.{State}
use Rattle.t0_state.specs.declared.Act.{Act}
use Rattle.t0_state.specs.declared.Act.TheVariants.{Nothing, Header, Send, Keep, Answer}
use Rattle.t0_state.specs.declared.Refusal.{Refusal}
use Rattle.t0_state.specs.declared.Phase.{Phase}
use Rattle.t0_begin.specs.Begin.{header_of, wait_for}
use Rattle.t0_begin.specs.declared.Reply.{Reply}
use Rattle.t0_begin.specs.declared.Reply.TheVariants.{Go, Answer as Answered}
use Rattle.t0_begin.specs.declared.Step.{Step}
use Rattle.t0_turns.specs.Turns.{after_byte}

-- the bytes to send
unfoldable pub sent_by : Result Act Refusal → State → List ℕ
sent_by (Ok Nothing) s = []
sent_by (Ok (Header p3)) s = header_of s p3
sent_by (Ok (Send from n)) s = take n (drop from s.command.body)
sent_by (Ok (Keep b)) s = []
sent_by (Ok (Answer t)) s = []
sent_by (Err why) s = []

-- the bytes that belong to the answer
unfoldable pub kept_by : Result Act Refusal → List ℕ
kept_by (Ok Nothing) = []
kept_by (Ok (Header p3)) = []
kept_by (Ok (Send from n)) = []
kept_by (Ok (Keep b)) = b ∷ []
kept_by (Ok (Answer t)) = t.sw1 ∷ t.sw2 ∷ []
kept_by (Err why) = []

-- the reply, where n bytes are to be sent and so many bytes of data had come
unfoldable pub reply_to : Result Act Refusal → ℕ → ℕ → Phase → Result Reply Refusal
reply_to (Ok Nothing) n received p = Ok (Go n (wait_for p))
reply_to (Ok (Header p3)) n received p = Ok (Go n (wait_for p))
reply_to (Ok (Send from k)) n received p = Ok (Go n (wait_for p))
reply_to (Ok (Keep b)) n received p = Ok (Go n (wait_for p))
reply_to (Ok (Answer t)) n received p = Ok (Answered (received + 2))
reply_to (Err why) n received p = Err why

-- the exchange, its reply and the two buffers afterwards
pub record Stepped : Type 0 where
  pub state : State
  pub reply : Result Reply Refusal
  pub out : List ℕ
  pub answer : List ℕ

abbrev pub stepped : Step → List ℕ → List ℕ → Stepped
stepped r out answer = record { state = r.state; reply = r.reply; out = out; answer = answer }

-- a turn done over the two buffers, where so many bytes of data had come before it
unfoldable pub done : State → Result Act Refusal → ℕ → List ℕ → List ℕ → Stepped
done s act received out answer =
    record {
      state = s;
      reply = reply_to act (length (sent_by act s)) received s.phase;
      out = laid (sent_by act s) 0 out;
      answer = laid (kept_by act) received answer;
    }

unfoldable pub step_of : State → ℕ → List ℕ → List ℕ → Stepped
step_of s b out answer = done (after_byte s b).state (after_byte s b).act s.received out answer
