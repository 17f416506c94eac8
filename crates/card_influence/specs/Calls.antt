-- Calls of the kernel in which the card's answers are exchanged, where they are due, for others of which the same is seen; all else is the
-- same, the command buffers too. 02, R-13. That every call gives the same then is proved (`call`, `calls` of Theorem).
-- Assumes nothing.
use Rattle.std.specs.Prelude.{◌≡◌, List, [], ◌∷◌, ◌⊎◌, ℕ, ◌≤◌, length}
use Rattle.numbers.specs.Tables.{answer}
use Rattle.tape_read.specs.Entries.{entry, payload_most}
use Rattle.session_phase.specs.declared.Question.{Question}
use Rattle.session_phase.specs.declared.Waiting.TheVariants.{ForCard}
use Rattle.session_state.specs.Reading.{asked_by}
use Rattle.kernel.specs.declared.Session.{Session}
use Rattle.kernel.specs.Calls.{Called}
use Rattle.kernel_laws.specs.Log.{Call, made}
use Rattle.card_seen.specs.Seen.{Place, seen}
use Rattle.card_seen.specs.Given.{place_of}

-- the place of an answer to a question, by what a session holds
abbrev pub place_in : Session → Question → Place
place_in s question = place_of (asked_by question s.state)

-- a call that hands in an answer
abbrev pub answering : List ℕ → List ℕ → Call
answering a buffer = record { event = entry answer a; buffer = buffer }

-- two calls on a session that waits for the answer to a question: the same buffer, and two answers, none longer than a tape's block holds
-- (a longer one is refused), of which the same is seen
pub record OtherAnswer (s : Session) (c d : Call) : Type 0 where
  pub question : Question
  pub due : s.state.waiting ≡ ForCard question
  pub one : List ℕ
  pub other : List ℕ
  pub first_short : length one ≤ payload_most
  pub second_short : length other ≤ payload_most
  pub alike : seen (place_in s question) one ≡ seen (place_in s question) other
  pub first_call : c ≡ answering one c.buffer
  pub second_call : d ≡ answering other c.buffer

-- call by call, each on the session that the one before it left: the same call, or one with another answer
unfoldable pub CallsAlike : Session → List Call → List Call → Type 0
CallsAlike s [] [] = Unit {0}
CallsAlike s [] (d ∷ ds) = ⊥
CallsAlike s (c ∷ cs) [] = ⊥
CallsAlike s (c ∷ cs) (d ∷ ds) = ((c ≡ d) ⊎ OtherAnswer s c d) × CallsAlike (made s c).session cs ds

-- all that calls give, one after the other: reply, command buffer and session
unfoldable pub all_given : Session → List Call → List Called
all_given s [] = []
all_given s (c ∷ cs) = made s c ∷ all_given (made s c).session cs
