-- An exchange begins: its command is kept, and the header goes out. 000, I-5.2.2.2 and I-5.3.1.1.
-- Assumes nothing.
use Rattle.std.specs.Prelude.{false, Option, None, Some, Result, Ok, Err, List, [], ◌∷◌, ℕ, get_or}
use Rattle.slices.specs.Choice.{pick}
use Rattle.slices.specs.Writing.{laid, zeros}
use Rattle.apdu.specs.Commands.{length_byte, case_of, data_of, asked}
use Rattle.apdu.specs.Answers.{is_status}
use Rattle.apdu.specs.declared.Case.{Case}
use Rattle.apdu.specs.declared.Case.TheVariants.{One, Two, Three, Four}
use Rattle.t0_state.specs.declared.Sent.{Sent}
use Rattle.t0_state.specs.declared.Sent.TheVariants.{Own, GetResponse}
use Rattle.t0_state.specs.declared.Command.{Command}
use Rattle.t0_state.specs.declared.Phase.{Phase}
use Rattle.t0_state.specs.declared.Phase.TheVariants.{Length61, Length6C, Status, Over, Procedure as ProcedureDue, Data as DataDue}
use Rattle.t0_state.specs.declared.State.{State}
use Rattle.t0_state.specs.declared.Refusal.{Refusal}
use Rattle.t0_state.specs.declared.Refusal.TheVariants.{Command as NoCommand, Ins}
use Rattle.t0_begin.specs.declared.waits.Wait.{Wait}
use Rattle.t0_begin.specs.declared.waits.Wait.TheVariants.{Procedure, Length, Sw2, Data}
use Rattle.t0_begin.specs.declared.Reply.{Reply}
use Rattle.t0_begin.specs.declared.Reply.TheVariants.{Go}
use Rattle.t0_begin.specs.declared.Step.{Step}

-- the command's four bytes, or those of GET RESPONSE (000, Table I-26), and the length
unfoldable pub header_for : Sent → Command → ℕ → List ℕ
header_for (Own case) c p3 = c.cla ∷ c.ins ∷ c.p1 ∷ c.p2 ∷ p3 ∷ []
header_for GetResponse c p3 = 0x00 ∷ 0xC0 ∷ 0x00 ∷ 0x00 ∷ p3 ∷ []

unfoldable pub header_of : State → ℕ → List ℕ
header_of s p3 = header_for s.header.sent s.command p3

-- room for the longest data
abbrev pub data_room : ℕ
data_room = 255

-- what is kept of a command
unfoldable pub command_of : List ℕ → Command
command_of c =
    record {
      cla = get_or c 0 0;
      ins = get_or c 1 0;
      p1 = get_or c 2 0;
      p2 = get_or c 3 0;
      body = laid (data_of c) 0 (zeros data_room);
    }

-- what is waited for; where the exchange is over, no byte
unfoldable pub wait_for : Phase → Wait
wait_for ProcedureDue = Procedure
wait_for Length61 = Length
wait_for Length6C = Length
wait_for (Status a) = Sw2
wait_for (DataDue n) = Data n
wait_for Over = Data 0

-- nothing counted and nothing received yet
abbrev pub state_at : Command → Sent → ℕ → Phase → State
state_at c sent size p =
    record {
      command = c;
      header = record { sent = sent; size = size; left = size };
      counts = record { waits = 0; gets = 0; repeated = false };
      trailer = None;
      phase = p;
      received = 0;
    }

-- no exchange: over before it began
unfoldable pub nowhere : State
nowhere = state_at (record { cla = 0; ins = 0; p1 = 0; p2 = 0; body = zeros data_room }) (Own One) 0 Over

-- an answer of the layer's, with the bytes to send as they are afterwards
pub record Begun : Type 0 where
  pub state : State
  pub reply : Result Reply Refusal
  pub out : List ℕ

abbrev pub replied : Step → List ℕ → Begun
replied r out = record { state = r.state; reply = r.reply; out = out }

abbrev pub refused_as : Refusal → List ℕ → Begun
refused_as why out = record { state = nowhere; reply = Err why; out = out }

unfoldable pub begun : Sent → ℕ → List ℕ → State
begun sent size c = state_at (command_of c) sent size ProcedureDue

-- INS '6x' and '9x' could not be told from a status (000, I-5.4.1; 02, R-4)
unfoldable pub begun_as : Sent → ℕ → List ℕ → List ℕ → Begun
begun_as sent size c out =
    pick (is_status (get_or c 1 0)) (refused_as Ins out)
    (record {
      state = begun sent size c;
      reply = Ok (Go 5 Procedure);
      out = laid (header_of (begun sent size c) (length_byte c)) 0 out;
    })

-- P3 is '00', Le, Lc, Lc (000, I-5.3.1.1.1 to I-5.3.1.1.4); so many bytes are then to be moved
unfoldable pub begun_in : Option Case → List ℕ → List ℕ → Begun
begun_in None c out = refused_as NoCommand out
begun_in (Some One) c out = begun_as (Own One) 0 c out
begun_in (Some Two) c out = begun_as (Own Two) (asked (length_byte c)) c out
begun_in (Some Three) c out = begun_as (Own Three) (length_byte c) c out
begun_in (Some Four) c out = begun_as (Own Four) (length_byte c) c out

unfoldable pub begun_by : List ℕ → List ℕ → Begun
begun_by c out = begun_in (case_of c) c out
