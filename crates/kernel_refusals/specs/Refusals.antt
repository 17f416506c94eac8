-- When a call is turned away: 01, the table of that name, lines 1 to 6, and 02, R-7 and R-12. What is handed in is an entry, by its kind and
-- payload, and the first line that applies gives the number.
-- Assumes nothing.
use Rattle.std.specs.Prelude.{Bool, not, ◌&&◌, List, [], ◌∷◌, ℕ, eqb, ltb, length}
use Rattle.slices.specs.Choice.{pick, first_of}
use Rattle.numbers.specs.Tables.{refused_buffer, refused_over, refused_start, refused_event, refused_answer, start, answer, silence}
use Rattle.tape_read.specs.Entries.{Entry, payload_most}
use Rattle.start_valid.specs.Start.{begins_session}
use Rattle.commands.specs.Commands.{longest}
use Rattle.session_phase.specs.Waiting.{awaited, is_over}
use Rattle.session_phase.specs.Saying.{allowed_by, refusal_by}
use Rattle.session_phase.specs.declared.Waiting.{Waiting}
use Rattle.session_phase.specs.declared.Waiting.TheVariants.{Searching, ForCard, ForWord, Decided, Closed}

-- the event is the one due; a silence, which has no payload, is accepted only where an answer is due
unfoldable pub is_due : Waiting → Entry → Bool
is_due waiting e =
    pick (eqb e.kind silence) (eqb (awaited waiting) answer && eqb (length e.payload) 0) (eqb e.kind (awaited waiting))

-- what an event of each kind must be
unfoldable pub start_bad : Entry → Bool
start_bad e = eqb e.kind start && not (begins_session e.payload)

unfoldable pub answer_bad : Entry → Bool
answer_bad e = eqb e.kind answer && ltb payload_most (length e.payload)

-- the line of the word that is waited for, if one is: START invalid; HOST not 3 bytes, or not one of the replies; the results of cardholder
-- verification not one for each rule, or not 0 to 4; a choice that is none of those shown. Each has its own number
unfoldable pub word_lines : Waiting → List ℕ → List (Bool × ℕ)
word_lines (ForWord speaker) p = (not (allowed_by speaker p), refusal_by speaker) ∷ []
word_lines Searching p = []
word_lines (ForCard question) p = []
word_lines (Decided outcome reason) p = []
word_lines Closed p = []

-- the table: on a session that waits for something, an event, and the command buffer that is lent for it
unfoldable pub refusal_lines : Waiting → Entry → List ℕ → List (Bool × ℕ)
refusal_lines waiting e buf =
    -- command buffer under 261 bytes
    (ltb (length buf) longest, refused_buffer)
    -- session decided, or closed by silence
    ∷ (is_over waiting, refused_over)
    -- START invalid or not 77 bytes
    ∷ (start_bad e, refused_start)
    -- event not the one due
    ∷ (not (is_due waiting e), refused_event)
    -- answer over 496 bytes
    ∷ (answer_bad e, refused_answer)
    -- 6 for HOST, 12 for the results, 13 for the choice
    ∷ word_lines waiting e.payload

-- the number; 0 where no line applies, and the call is taken
unfoldable pub call_refusal : Waiting → Entry → List ℕ → ℕ
call_refusal waiting e buf = first_of (refusal_lines waiting e buf)
