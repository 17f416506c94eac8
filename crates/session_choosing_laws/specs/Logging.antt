-- What the terminal puts on the tape by itself once a phase of the amended rules is reached, and where the machine stands after it.
-- Assumes nothing.
use Rattle.std.specs.Prelude.{◌≡◌, List, [], ◌∷◌, ℕ, length}
use Rattle.std.proofs.Math.Option.{some}
use Rattle.slices.specs.Writing.{laid}
use Rattle.numbers.specs.Tables.{command, decision}
use Rattle.tape_read.specs.Entries.{Entry, entry}
use Rattle.commands.specs.Commands.{size_in}
use Rattle.select_list.specs.Order.{Candidate}
use Rattle.sessions.specs.Rules.{asks, hears, decides}
use Rattle.sessions.specs.Session.{LeadsTo}
use Rattle.sessions.specs.Machine.{at, owes, done, next, run}
use Rattle.rulebook_choosing.specs.Choosing.{ChoosingPhase}
use Rattle.rulebook_choosing.specs.Session.{rules}
use Rattle.rulebook_choosing.specs.Machine.{Machine}
use Rattle.choosing_zeros.specs.Zeros.{unsupplied_later}
use Rattle.session_phase.specs.declared.Reply.{Reply}
use Rattle.session_phase.specs.declared.Reply.TheVariants.{Command, Due, Decided as DecidedReply}
use Rattle.session_state.specs.declared.State.{State}
use Rattle.session_choosing.specs.Moves.{MovedLater}
use Rattle.session_choosing_laws.specs.Agreeing.{StandsAt}

-- the command or the decision that is due
unfoldable pub logged : ChoosingPhase → List Entry
logged (asks w) = entry command (rules.command_of w) ∷ []
logged (hears h) = []
logged (decides outcome reason z) = entry decision (rules.decision_of outcome reason z) ∷ []

unfoldable pub landing : ChoosingPhase → Machine
landing (asks w) = owes w
landing (hears h) = at (hears h)
landing (decides outcome reason z) = done

-- the reply to a call that leads to a phase, and the lent buffer
unfoldable pub reply_later : ℕ → ChoosingPhase → Reply
reply_later room (asks w) = Command (size_in room (rules.command_of w))
reply_later room (hears h) = Due (rules.due_kind h)
reply_later room (decides outcome reason z) = DecidedReply

unfoldable pub buffer_later : ChoosingPhase → List ℕ → List ℕ
buffer_later (asks w) buf = laid (rules.command_of w) 0 buf
buffer_later (hears h) buf = buf
buffer_later (decides outcome reason z) buf = buf

-- an event takes the machine to a phase; the state and the list left behind stand there, and the reply, the buffer and what is added to the
-- entries filled with zeros are the phase's
pub record Follows (σ : Machine) (event : Entry) (p : ChoosingPhase) (buf : List ℕ) (m : MovedLater) : Type 0 where
  pub taken : next rules σ event ≡ some (at p)
  pub stands : StandsAt m.state m.list p
  pub reply : m.reply ≡ reply_later (length buf) p
  pub buffer : m.buffer ≡ buffer_later p buf
  pub zeros : m.zeros ≡ unsupplied_later p

-- a tape's entries lead to a phase, its own entry among them, and the state with its list stands there
pub record Reached (s : State) (l : List Candidate) (es : List Entry) : Type 0 where
  pub phase : ChoosingPhase
  pub read : run rules es (at rules.opens) ≡ some (landing phase)
  pub leads : LeadsTo rules es phase
  pub stands : StandsAt s l phase
