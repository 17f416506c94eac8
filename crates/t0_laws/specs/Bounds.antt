-- How many bytes an exchange can still take from the card, at most, and how many of them are data.
-- Assumes nothing.
use Rattle.std.specs.Prelude.{◌≡◌, Bool, true, false, ℕ, ◌+◌, ◌*◌, ◌-◌, ◌≤◌}
use Rattle.slices.specs.Choice.{pick}
use Rattle.t0_state.specs.Bytes.{may_repeat}
use Rattle.t0_state.specs.declared.Sent.{Sent}
use Rattle.t0_state.specs.declared.Sent.TheVariants.{Own, GetResponse}
use Rattle.t0_state.specs.declared.Header.{Header}
use Rattle.t0_state.specs.declared.Counts.{Counts}
use Rattle.t0_state.specs.declared.Phase.{Phase}
use Rattle.t0_state.specs.declared.Phase.TheVariants.{Procedure, Length61, Length6C, Status, Data, Over}
use Rattle.t0_state.specs.declared.State.{State}
use Rattle.t0_procedure.specs.Procedure.{waits_most, gets_most}
use Rattle.t0_turns.specs.Turns.{data_most}
use Rattle.apdu.specs.declared.Case.TheVariants.{One, Two, Three, Four}

-- the most bytes that the card sends in one exchange
abbrev pub bytes_most : ℕ
bytes_most = 9252

-- '60' is one byte each; '61' is two, and the GET RESPONSE after it takes at most 512
unfoldable pub waits_left : Counts → ℕ
waits_left k = waits_most - k.waits

unfoldable pub gets_left : Counts → ℕ
gets_left k = gets_most - k.gets

-- '6C' and its length, once
unfoldable pub repeat_cost : Counts → ℕ
repeat_cost k = pick k.repeated 0 2

-- how many of a header's bytes have been moved
unfoldable pub moved : Header → ℕ
moved h = h.size - h.left

-- the most bytes that go with a header
unfoldable pub size_most : Sent → ℕ
size_most (Own One) = 0
size_most (Own Two) = 256
size_most (Own Three) = 255
size_most (Own Four) = 255
size_most GetResponse = 256

-- what is still to come under a header of which so many bytes have been moved: a procedure byte before each byte; after case 4
-- a warning and its GET RESPONSE
unfoldable pub header_cost : Sent → ℕ → ℕ
header_cost (Own One) m = 0
header_cost (Own Two) m = 2 * (256 - m)
header_cost (Own Three) m = 255 - m
header_cost (Own Four) m = 514 + (255 - m)
header_cost GetResponse m = 2 * (256 - m)

unfoldable pub phase_cost : Phase → ℕ
phase_cost Procedure = 2
phase_cost Length61 = 515
phase_cost Length6C = 3
phase_cost (Status a) = 1
phase_cost (Data n) = 3 + (n - 1)
phase_cost Over = 0

unfoldable pub bytes_left : State → ℕ
bytes_left s =
    waits_left s.counts + 514 * gets_left s.counts + repeat_cost s.counts
    + header_cost s.header.sent (moved s.header)
    + phase_cost s.phase

-- the same for data alone
unfoldable pub header_data : Sent → ℕ → ℕ
header_data (Own One) m = 0
header_data (Own Two) m = 256 - m
header_data (Own Three) m = 0
header_data (Own Four) m = 256
header_data GetResponse m = 256 - m

unfoldable pub phase_data : Phase → ℕ
phase_data Procedure = 0
phase_data Length61 = 256
phase_data Length6C = 0
phase_data (Status a) = 0
phase_data (Data n) = 1 + (n - 1)
phase_data Over = 0

unfoldable pub data_left : State → ℕ
data_left s = 256 * gets_left s.counts + header_data s.header.sent (moved s.header) + phase_data s.phase

unfoldable pub is6_c : Phase → Bool
is6_c Procedure = false
is6_c Length61 = false
is6_c Length6C = true
is6_c (Status a) = false
is6_c (Data n) = false
is6_c Over = false

-- what holds of every exchange that began with a command
pub record Sound (s : State) : Type 0 where
  pub size : s.header.size ≤ size_most s.header.sent
  pub left : s.header.left ≤ s.header.size
  pub again : is6_c s.phase ≡ true → may_repeat s.header ≡ true
  pub room : s.received + data_left s ≤ data_most
