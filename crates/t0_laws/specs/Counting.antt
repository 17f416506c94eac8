-- How often the card has said '60', '61' and '6C' in one command: over all its headers, GET RESPONSE included, and where a procedure byte
-- or a status is due alone; as a second byte or as data they are not counted (02, R-4).
-- Assumes nothing.
use Rattle.std.specs.Prelude.{◌≡◌, Bool, true, false, List, [], ◌∷◌, ℕ, ◌+◌, eqb}
use Rattle.slices.specs.Choice.{pick}
use Rattle.t0_state.specs.declared.Phase.{Phase}
use Rattle.t0_state.specs.declared.Phase.TheVariants.{Procedure, Length61, Length6C, Status, Data, Over}
use Rattle.t0_state.specs.declared.State.{State}
use Rattle.t0_procedure.specs.Procedure.{waited}
use Rattle.t0_turns.specs.Turns.{after_byte}
use Rattle.t0_laws.specs.Outcomes.{Outcome}

abbrev pub procedure_due : Phase → Bool
procedure_due Procedure = true
procedure_due Length61 = false
procedure_due Length6C = false
procedure_due (Status a) = false
procedure_due (Data n) = false
procedure_due Over = false

-- the bytes among the card's that come where a procedure byte or a status is due
unfoldable pub procedures : State → List ℕ → List ℕ
procedures s [] = []
procedures s (b ∷ bs) =
    pick (procedure_due s.phase) (b ∷ procedures (after_byte s b).state bs) (procedures (after_byte s b).state bs)

-- how often a byte stands among others
unfoldable pub times : ℕ → List ℕ → ℕ
times x [] = 0
times x (b ∷ bs) = pick (eqb b x) (1 + times x bs) (times x bs)

abbrev pub once : Bool → ℕ
once true = 1
once false = 0

-- the three counts after some bytes, where they were those of the first state before
pub record Counted (s t : State) (said : List ℕ) : Type 0 where
  pub waits : t.counts.waits ≡ s.counts.waits + times 0x60 said
  pub gets : t.counts.gets ≡ s.counts.gets + times 0x61 said
  pub repeated : once t.counts.repeated ≡ once s.counts.repeated + times 0x6C said

-- an exchange with one '60' more: the count and the number of bytes taken tell it from the other, and nothing else
abbrev pub one_more : Outcome → Outcome
one_more o =
    record {
      state = waited o.state;
      taken = o.taken + 1;
      sent = o.sent;
      said = o.said;
      out = o.out;
      answer = o.answer;
    }
