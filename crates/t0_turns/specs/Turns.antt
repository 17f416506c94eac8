-- One byte of the card's, by what the exchange waits for. 000, I-5.2.2.3 and I-5.3.1.
-- Assumes nothing.
use Rattle.std.specs.Prelude.{Option, None, Some, Ok, Err, ℕ, ◌+◌, ◌-◌, leb, ltb}
use Rattle.slices.specs.Choice.{pick}
use Rattle.apdu.specs.Answers.{trailer_of}
use Rattle.apdu.specs.Commands.{asked}
use Rattle.apdu.specs.declared.Trailer.{Trailer}
use Rattle.t0_state.specs.Bytes.{goes_on}
use Rattle.t0_state.specs.Changes.{at_phase, with_received, with_trailer, asking}
use Rattle.t0_state.specs.declared.Sent.{Sent}
use Rattle.t0_state.specs.declared.Sent.TheVariants.{GetResponse}
use Rattle.t0_state.specs.declared.Phase.{Phase}
use Rattle.t0_state.specs.declared.Phase.TheVariants.{Procedure, Length61, Length6C, Status, Data, Over}
use Rattle.t0_state.specs.declared.State.{State}
use Rattle.t0_procedure.specs.Procedure.{on_procedure}
use Rattle.t0_state.specs.declared.Refusal.TheVariants.{Closed}
use Rattle.t0_state.specs.declared.Act.{Act}
use Rattle.t0_state.specs.declared.Act.TheVariants.{Header, Keep, Answer}
use Rattle.t0_state.specs.declared.Turn.{Turn}

-- the most bytes of data: 256 to the command itself or to the GET RESPONSE after a warning, and 256 for each of 16 '61'
abbrev pub data_most : ℕ
data_most = 4352

-- nothing moves
abbrev pub closed_on : State → Turn
closed_on s = record { state = s; act = Err Closed }

-- the length behind '61': GET RESPONSE goes out with it (000, I-5.3.1.2)
unfoldable pub on_length : Sent → State → ℕ → Turn
on_length sent s b = record { state = asking sent (asked b) s; act = Ok (Header b) }

-- the length behind '6C': the same header goes out again with it
unfoldable pub on_repeat : State → ℕ → Turn
on_repeat s b = on_length s.header.sent s b

-- the answer's trailer is the warning that came before GET RESPONSE, or else the last status (000, I-5.3.1.1.4)
unfoldable pub ending_in : Option Trailer → Trailer → Act
ending_in None t = Answer t
ending_in (Some kept) t = Answer kept

-- a status is whole: it ends the exchange, or it warns and the data is fetched
unfoldable pub on_status : ℕ → State → ℕ → Turn
on_status a s b =
    pick (goes_on s.header (trailer_of a b))
    (record { state = asking GetResponse 256 (with_trailer (trailer_of a b) s); act = Ok (Header 0) })
    (record { state = at_phase Over s; act = Ok (ending_in s.trailer (trailer_of a b)) })

-- a byte of data, where so many were due
unfoldable pub phase_after : ℕ → Phase
phase_after n = pick (leb n 1) Procedure (Data (n - 1))

unfoldable pub on_data : ℕ → State → ℕ → Turn
on_data n s b = record { state = at_phase (phase_after n) (with_received (s.received + 1) s); act = Ok (Keep b) }

unfoldable pub by_phase : Phase → State → ℕ → Turn
by_phase Procedure s b = on_procedure s b
by_phase Length61 s b = on_length GetResponse s b
by_phase Length6C s b = on_repeat s b
by_phase (Status a) s b = on_status a s b
by_phase (Data n) s b = on_data n s b
by_phase Over s b = closed_on s

unfoldable pub after_byte : State → ℕ → Turn
after_byte s b = pick (ltb data_most s.received) (closed_on s) (by_phase s.phase s b)
