-- The outcome of a capture: byte by byte, in pieces, and by calls of `takes`.
-- Assumes nothing.
use Rattle.std.specs.Prelude.{Result, Ok, Err, List, [], ◌∷◌, ◌++◌, ℕ, ◌+◌, ◌<◌, eqb, take}
use Rattle.slices.specs.Choice.{pick}
use Rattle.t0_state.specs.declared.State.{State}
use Rattle.t0_begin.specs.declared.Reply.{Reply}
use Rattle.t0_begin.specs.declared.Reply.TheVariants.{Go, Answer}
use Rattle.t0_begin.specs.Begin.{begun_by}
use Rattle.t0_turns.specs.Turns.{after_byte}
use Rattle.t0.specs.Steps.{Stepped, step_of}
use Rattle.t0_pieces.specs.Pieces.{is_closed, Took}
use Rattle.t0_state.specs.declared.Refusal.{Refusal}

-- where the exchange stands, how many bytes it took, what it has sent, each sending by itself, and what it says last
pub record Outcome : Type 0 where
  pub state : State
  pub taken : ℕ
  pub sent : List (List ℕ)
  pub said : Result Reply Refusal
  pub out : List ℕ
  pub answer : List ℕ

-- what has been sent, with what a reply adds
unfoldable pub logged : Result Reply Refusal → List ℕ → List (List ℕ) → List (List ℕ)
logged (Ok (Go n w)) out sent = pick (eqb n 0) sent (sent ++ (take n out ∷ []))
logged (Ok (Answer n)) out sent = sent
logged (Err why) out sent = sent

-- a reply once its bytes are sent
unfoldable pub settled : Result Reply Refusal → Result Reply Refusal
settled (Ok (Go n w)) = Ok (Go 0 w)
settled (Ok (Answer n)) = Ok (Answer n)
settled (Err why) = Err why

-- an exchange begins with a command, over two lent buffers
unfoldable pub opened : List ℕ → List ℕ → List ℕ → Outcome
opened c out answer =
    record {
      state = (begun_by c out).state;
      taken = 0;
      sent = logged (begun_by c out).reply (begun_by c out).out [];
      said = settled (begun_by c out).reply;
      out = (begun_by c out).out;
      answer = answer;
    }

-- after one byte
abbrev pub stepped_to : Outcome → Stepped → Outcome
stepped_to o r =
    record {
      state = r.state;
      taken = o.taken + 1;
      sent = logged r.reply r.out o.sent;
      said = settled r.reply;
      out = r.out;
      answer = r.answer;
    }

-- a capture, up to the end of the exchange
unfoldable pub playing : Outcome → List ℕ → Outcome
playing o [] = o
playing o (b ∷ bs) = pick (is_closed o.state) o (playing (stepped_to o (step_of o.state b o.out o.answer)) bs)

-- the pieces of a capture, one after the other
unfoldable pub in_pieces : Outcome → List (List ℕ) → Outcome
in_pieces o [] = o
in_pieces o (p ∷ ps) = in_pieces (playing o p) ps

unfoldable pub joined : List (List ℕ) → List ℕ
joined [] = []
joined (p ∷ ps) = p ++ joined ps

-- after one call of `takes`, where the exchange was not over
unfoldable pub called_to : Outcome → Took → Outcome
called_to o t =
    pick (is_closed o.state) o
    (record {
      state = t.state;
      taken = t.taken;
      sent = logged t.reply t.out o.sent;
      said = settled t.reply;
      out = t.out;
      answer = t.answer;
    })

-- where the exchange stands after some bytes; one that is over stays as it is
unfoldable pub turned : State → List ℕ → State
turned s [] = s
turned s (b ∷ bs) = turned (after_byte s b).state bs

-- every element is a byte
abbrev pub Bytes : List ℕ → Type 0
Bytes [] = Unit {0}
Bytes (b ∷ bs) = (b < 256) × Bytes bs
