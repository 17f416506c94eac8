-- What is said of a session after any calls, and of the last of them.
-- Assumes nothing.
use Rattle.std.specs.Prelude.{◌≡◌, true, false, List, [], ◌∷◌, ◌++◌, ℕ, length, take, drop}
use Rattle.numbers.specs.Tables.{silence}
use Rattle.tape_read.specs.Entries.{Entry, entry}
use Rattle.rulebook.specs.Situation.{Situation}
use Rattle.rulebook.specs.Phase.{Asked, Phase, asks, hears, decides, situation_of, command_of, due_kind, decision_of, tvr_of, tsi_of}
use Rattle.rulebook.specs.Session.{Session as WholeSession, AwaitsCard, Open, LeadsTo}
use Rattle.session_phase.specs.Waiting.{is_decided}
use Rattle.session_phase.specs.declared.Waiting.TheVariants.{Closed}
use Rattle.session_phase.specs.declared.Reply.TheVariants.{Command, Due, Decided as DecidedReply, Closed as ClosedReply, Refused}
use Rattle.session_state.specs.Results.{decision_in}
use Rattle.session_moves.specs.Moves.{kept_as}
use Rattle.session_laws.specs.Logging.{logged}
use Rattle.kernel.specs.declared.Session.{Session}
use Rattle.kernel.specs.Calls.{Called}
use Rattle.kernel_laws.specs.Log.{Call, made, logged_by, Played}

-- the log is a session of the rulebook exactly where the kernel has decided, and open everywhere else
pub record Lawfully (s : Session) (log : List Entry) : Type 0 where
  pub finished : is_decided s.state.waiting ≡ true → WholeSession log
  pub decided : WholeSession log → is_decided s.state.waiting ≡ true
  pub unfinished : is_decided s.state.waiting ≡ false → Open log
  pub undecided : Open log → is_decided s.state.waiting ≡ false

-- what a phase of the rulebook asks of a call that leads to it: the reply, and the command or the decision. The buffer behind the
-- command stays as it was lent
unfoldable pub Gives : Phase → List ℕ → Called → Type 0
Gives (asks w) buf r =
    (r.reply ≡ Command (length (command_of w)))
    × (take (length (command_of w)) r.buffer ≡ command_of w)
    × (drop (length (command_of w)) r.buffer ≡ drop (length (command_of w)) buf)
Gives (hears h) buf r = (r.reply ≡ Due (due_kind h)) × (r.buffer ≡ buf)
Gives (decides outcome reason z) buf r =
    (r.reply ≡ DecidedReply) × (decision_in r.session.state ≡ decision_of outcome reason z) × (r.buffer ≡ buf)

-- an accepted event, with the log before it, leads the rulebook to a phase, and all that the call gives is what that phase names
pub record Follows (log : List Entry) (e : Entry) (buf : List ℕ) (r : Called) : Type 0 where
  pub phase : Phase
  pub leads : LeadsTo (log ++ (e ∷ [])) phase
  pub gives : Gives phase buf r
  pub waits : r.session.state.waiting ≡ kept_as phase
  pub tvr : r.session.state.tvr ≡ tvr_of phase
  pub tsi : r.session.state.tsi ≡ tsi_of phase
  pub grows : logged_by r e ≡ e ∷ logged phase

-- a log that a closing silence ends: something was asked before it and not answered, and TVR and TSI are as they were then
pub record Silenced (s : Session) (log : List Entry) : Type 0 where
  pub before : List Entry
  pub asked : Asked
  pub awaits : AwaitsCard before
  pub leads : LeadsTo before (asks asked)
  pub ends : log ≡ before ++ (entry silence [] ∷ [])
  pub closed : s.state.waiting ≡ Closed
  pub tvr : s.state.tvr ≡ (situation_of asked).tvr
  pub tsi : s.state.tsi ≡ (situation_of asked).tsi

-- a log that leads the rulebook to a phase, its own command or decision among the entries: the session waits for what the phase
-- does, and TVR, TSI and the decision are the phase's
pub record Named (s : Session) (log : List Entry) : Type 0 where
  pub phase : Phase
  pub leads : LeadsTo log phase
  pub waits : s.state.waiting ≡ kept_as phase
  pub tvr : s.state.tvr ≡ tvr_of phase
  pub tsi : s.state.tsi ≡ tsi_of phase
  pub decision : (outcome reason : ℕ) (z : Situation) → phase ≡ decides outcome reason z
      → decision_in s.state ≡ decision_of outcome reason z

-- every session from fresh is one of these
pub data Says (s : Session) (log : List Entry) : Type 0 where
  named : Named s log → Says s log
  silenced : Silenced s log → Says s log

-- a call that changed nothing: the session and the buffer come back as they were, and nothing is logged
pub record Unchanged (s : Session) (c : Call) : Type 0 where
  pub session : (made s c).session ≡ s
  pub buffer : (made s c).buffer ≡ c.buffer
  pub log : logged_by (made s c) c.event ≡ []

-- every call on a session is one of these: it follows the rulebook, it closes the session, or it is turned away
pub data Replies (p : Played) (c : Call) : Type 0 where
  follows : Follows p.log c.event c.buffer (made p.session c) → Replies p c
  closes : c.event ≡ entry silence [] → (made p.session c).reply ≡ ClosedReply → (made p.session c).buffer ≡ c.buffer
      → Silenced (made p.session c).session (p.log ++ (entry silence [] ∷ [])) → Replies p c
  refuses : (n : ℕ) → (made p.session c).reply ≡ Refused n → Unchanged p.session c → Replies p c
