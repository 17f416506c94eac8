-- What a right card says to one command, step by step: procedure bytes in any of the ways that 000 allows, '60' anywhere, '61' and '6C'
-- where they have their place, and at the end the status. 000, Tables I-20 and I-21, I-5.3.1.
-- Assumes nothing.
use Rattle.std.specs.Prelude.{Option, None, Some, ◌≡◌, Bool, true, false, List, [], ◌∷◌, ◌++◌, ℕ, ◌+◌, ◌-◌, ◌<◌, ◌≤◌, eqb, length}
use Rattle.apdu.specs.Commands.{asked}
use Rattle.apdu.specs.Answers.{is_status}
use Rattle.t0_state.specs.Bytes.{ins_for, complement, comes_in, may_get, may_repeat, goes_on}
use Rattle.t0_state.specs.declared.Sent.{Sent}
use Rattle.t0_state.specs.declared.Sent.TheVariants.{GetResponse}
use Rattle.t0_state.specs.declared.Command.{Command}
use Rattle.t0_state.specs.declared.Header.{Header}
use Rattle.t0_state.specs.declared.Counts.{Counts}
use Rattle.apdu.specs.declared.Trailer.{Trailer}
use Rattle.t0_procedure.specs.Procedure.{waits_most, gets_most}
use Rattle.apdu.specs.Answers.{trailer_of}

-- '60'; INS and all bytes that are left, or its complement and the next one; INS for all of the command's data that is left, or its
-- complement for the next byte; '61' and '6C' with a length; a warning before GET RESPONSE; the status
pub data Script : Type 0 where
  waits : Script → Script
  gives : List ℕ → Script → Script
  gives_one : ℕ → Script → Script
  takes : Script → Script
  takes_one : Script → Script
  fetches : ℕ → Script → Script
  corrects : ℕ → Script → Script
  warns : ℕ → ℕ → Script → Script
  ends : ℕ → ℕ → Script

-- its bytes, to a header of a command
unfoldable pub says : Script → Sent → Command → List ℕ
says (waits sc) x c = 0x60 ∷ says sc x c
says (gives d sc) x c = ins_for x c ∷ (d ++ says sc x c)
says (gives_one b sc) x c = complement (ins_for x c) ∷ b ∷ says sc x c
says (takes sc) x c = ins_for x c ∷ says sc x c
says (takes_one sc) x c = complement (ins_for x c) ∷ says sc x c
says (fetches n sc) x c = 0x61 ∷ n ∷ says sc GetResponse c
says (corrects n sc) x c = 0x6C ∷ n ∷ says sc x c
says (warns a b sc) x c = a ∷ b ∷ says sc GetResponse c
says (ends a b) x c = a ∷ b ∷ []

-- the data among them
unfoldable pub told : Script → List ℕ
told (waits sc) = told sc
told (gives d sc) = d ++ told sc
told (gives_one b sc) = b ∷ told sc
told (takes sc) = told sc
told (takes_one sc) = told sc
told (fetches n sc) = told sc
told (corrects n sc) = told sc
told (warns a b sc) = told sc
told (ends a b) = []

-- the status that the answer ends with: the warning before GET RESPONSE, or else the last one
abbrev pub ending : Option Trailer → ℕ → ℕ → List ℕ
ending None a b = a ∷ b ∷ []
ending (Some t) a b = t.sw1 ∷ t.sw2 ∷ []

unfoldable pub status_of : Script → Option Trailer → List ℕ
status_of (waits sc) t = status_of sc t
status_of (gives d sc) t = status_of sc t
status_of (gives_one b sc) t = status_of sc t
status_of (takes sc) t = status_of sc t
status_of (takes_one sc) t = status_of sc t
status_of (fetches n sc) t = status_of sc t
status_of (corrects n sc) t = status_of sc t
status_of (warns a b sc) t = status_of sc (Some (trailer_of a b))
status_of (ends a b) t = ending t a b

abbrev pub less : ℕ → Header → Header
less n h = record { sent = h.sent; size = h.size; left = h.left - n }

abbrev pub header : Sent → ℕ → Header
header x n = record { sent = x; size = n; left = n }

abbrev pub counts : ℕ → ℕ → Bool → Counts
counts w g r = record { waits = w; gets = g; repeated = r }

-- a first status byte (000, Table I-21)
pub record First (a : ℕ) : Type 0 where
  pub status : is_status a ≡ true
  pub not60 : eqb a 0x60 ≡ false
  pub not61 : eqb a 0x61 ≡ false
  pub not6_c : eqb a 0x6C ≡ false

-- each step in its place, within the limits of the whole command
unfoldable pub Right : Script → Header → Counts → Type 0
Right (waits sc) h k = (k.waits < waits_most) × Right sc h (counts (k.waits + 1) k.gets k.repeated)
Right (gives d sc) h k = (comes_in h.sent ≡ true) × (length d ≡ h.left) × (1 ≤ length d) × Right sc (less h.left h) k
Right (gives_one b sc) h k = (comes_in h.sent ≡ true) × (1 ≤ h.left) × Right sc (less 1 h) k
Right (takes sc) h k = (comes_in h.sent ≡ false) × (1 ≤ h.left) × Right sc (less h.left h) k
Right (takes_one sc) h k = (comes_in h.sent ≡ false) × (1 ≤ h.left) × Right sc (less 1 h) k
Right (fetches n sc) h k =
    (k.gets < gets_most) × (may_get h ≡ true) × Right sc (header GetResponse (asked n)) (counts k.waits (k.gets + 1) k.repeated)
Right (corrects n sc) h k =
    (k.repeated ≡ false) × (may_repeat h ≡ true) × Right sc (header h.sent (asked n)) (counts k.waits k.gets true)
Right (warns a b sc) h k = First a × (goes_on h (trailer_of a b) ≡ true) × Right sc (header GetResponse 256) k
Right (ends a b) h k = First a × (goes_on h (trailer_of a b) ≡ false)
