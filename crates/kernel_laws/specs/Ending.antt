-- How a session stays once it has ended, how its log ends, and how the kernel plays a session of the rulebook.
-- Assumes nothing.
use Rattle.std.specs.Prelude.{◌≡◌, true, List, [], ◌∷◌, ◌++◌, ℕ, ltb, length}
use Rattle.slices.specs.Choice.{pick}
use Rattle.numbers.specs.Tables.{refused_buffer, refused_over, decision}
use Rattle.tape_read.specs.Entries.{Entry, entry}
use Rattle.commands.specs.Commands.{longest}
use Rattle.session_phase.specs.Waiting.{is_decided}
use Rattle.session_state.specs.Results.{decision_in}
use Rattle.kernel.specs.declared.Session.{Session}
use Rattle.kernel.specs.Calls.{refused}
use Rattle.kernel_laws.specs.Log.{Call, made, plays, all_bytes}
use Rattle.kernel_laws.specs.Replay.{calls_in}

-- the number of a call after the end: 1 where the buffer is short, else 2
abbrev pub at_end : List ℕ → ℕ
at_end buf = pick (ltb (length buf) longest) refused_buffer refused_over

-- each further call is answered with its number and nothing else, and no calls change the session or its log
pub record Ended (cs : List Call) : Type 0 where
  pub answers : (c : Call) → made (plays cs).session c ≡ refused (at_end c.buffer) (plays cs).session c.buffer
  pub stays : (more : List Call) → plays (cs ++ more) ≡ plays cs

-- a log ends with the session's decision, once there is one
abbrev pub EndsDecided : Session → List Entry → Type 0
EndsDecided s log =
    is_decided s.state.waiting ≡ true → (before : List Entry) × (log ≡ before ++ (entry decision (decision_in s.state) ∷ []))

-- the events of some entries, handed to a fresh session with a buffer, are bytes; they make just these entries, and decide
pub record Reproduces (buf : List ℕ) (es : List Entry) : Type 0 where
  pub bytes : all_bytes (calls_in buf es) ≡ true
  pub log : (plays (calls_in buf es)).log ≡ es
  pub decides : is_decided (plays (calls_in buf es)).session.state.waiting ≡ true
