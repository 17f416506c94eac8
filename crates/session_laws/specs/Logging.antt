-- What the terminal puts on the tape by itself once a phase is reached, and where the machine stands after it.
-- Assumes nothing.
use Rattle.std.specs.Prelude.{◌≡◌, List, [], ◌∷◌, ℕ, length}
use Rattle.std.proofs.Math.Option.{some}
use Rattle.numbers.specs.Tables.{command, decision}
use Rattle.tape_read.specs.Entries.{Entry, entry}
use Rattle.sessions.specs.Machine.{next, run}
use Rattle.rulebook.specs.Phase.{Phase, opens, asks, hears, decides, command_of, decision_of}
use Rattle.rulebook.specs.Session.{rules, LeadsTo}
use Rattle.rulebook.specs.Machine.{Machine, at, owes, done}
use Rattle.rulebook_zeros.specs.Zeros.{unsupplied_in}
use Rattle.session_state.specs.declared.State.{State}
use Rattle.session_moves.specs.Moves.{Moved, reply_in, buffer_in}
use Rattle.session_laws.specs.Agreeing.{StandsAt}

-- the command or the decision that is due
unfoldable pub logged : Phase → List Entry
logged (asks w) = entry command (command_of w) ∷ []
logged (hears h) = []
logged (decides outcome reason z) = entry decision (decision_of outcome reason z) ∷ []

unfoldable pub landing : Phase → Machine
landing (asks w) = owes w
landing (hears h) = at (hears h)
landing (decides outcome reason z) = done

-- an event takes the machine to a phase; the state left behind stands there, and the reply, the buffer and what is added to the
-- entries filled with zeros are the phase's
pub record Follows (σ : Machine) (event : Entry) (p : Phase) (buf : List ℕ) (m : Moved) : Type 0 where
  pub taken : next rules σ event ≡ some (at p)
  pub stands : StandsAt m.state p
  pub reply : m.reply ≡ reply_in (length buf) p
  pub buffer : m.buffer ≡ buffer_in p buf
  pub zeros : m.zeros ≡ unsupplied_in p

-- a tape's entries lead to a phase, its own entry among them, and the state stands there
pub record Reached (s : State) (es : List Entry) : Type 0 where
  pub phase : Phase
  pub read : run rules es (at opens) ≡ some (landing phase)
  pub leads : LeadsTo es phase
  pub stands : StandsAt s phase
