-- What an exchange moves: the command's data to the card, and the answer's bytes from it.
-- Assumes nothing.
use Rattle.std.specs.Prelude.{Result, Ok, Err, List, [], ◌∷◌, ◌++◌, ℕ, ◌-◌, take, drop}
use Rattle.slices.specs.Choice.{pick}
use Rattle.t0_state.specs.Bytes.{comes_in}
use Rattle.t0_state.specs.declared.State.{State}
use Rattle.t0_state.specs.declared.Act.{Act}
use Rattle.t0_state.specs.declared.Act.TheVariants.{Nothing, Header, Send, Keep, Answer}
use Rattle.t0_begin.specs.declared.Reply.{Reply}
use Rattle.t0_begin.specs.declared.Reply.TheVariants.{Go, Answer as Answered}
use Rattle.t0_turns.specs.Turns.{after_byte}
use Rattle.t0.specs.Steps.{sent_by, kept_by}
use Rattle.t0_laws.specs.Outcomes.{Outcome}
use Rattle.t0_state.specs.declared.Refusal.{Refusal}

-- the data among what a turn sends; a header is none
unfoldable pub data_sent_by : Result Act Refusal → State → List ℕ
data_sent_by (Ok Nothing) s = []
data_sent_by (Ok (Header p3)) s = []
data_sent_by (Ok (Send from n)) s = sent_by (Ok (Send from n)) s
data_sent_by (Ok (Keep b)) s = []
data_sent_by (Ok (Answer t)) s = []
data_sent_by (Err why) s = []

-- the data sent while the card sends some bytes
unfoldable pub data_out : State → List ℕ → List ℕ
data_out s [] = []
data_out s (b ∷ bs) = data_sent_by (after_byte s b).act (after_byte s b).state ++ data_out (after_byte s b).state bs

-- the data that is left to send
unfoldable pub unsent : State → List ℕ
unsent s = pick (comes_in s.header.sent) [] (take s.header.left (drop (s.header.size - s.header.left) s.command.body))

-- what is kept of some bytes: the data among them, and at the end the trailer
unfoldable pub kept : State → List ℕ → List ℕ
kept s [] = []
kept s (b ∷ bs) = kept_by (after_byte s b).act ++ kept (after_byte s b).state bs

-- the answer as far as it goes
unfoldable pub size_said : Result Reply Refusal → ℕ → ℕ
size_said (Ok (Go n w)) received = received
size_said (Ok (Answered n)) received = n
size_said (Err why) received = received

unfoldable pub answered : Outcome → List ℕ
answered o = take (size_said o.said o.state.received) o.answer
