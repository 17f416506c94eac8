-- What a session waits for: the kind of the entry that is due. Refusals, results and logs ask nothing else of it.
-- 01, "What the kernel plays and who decides" and "The tape"; 02, R-7 and R-12.
-- Assumes nothing.
use Rattle.std.specs.Prelude.{Bool, true, false, ℕ, eqb}
use Rattle.numbers.specs.Tables.{start, answer, choice}
use Rattle.words.specs.Words.{word_kind}
use Rattle.session_phase.specs.declared.Speaker.{Speaker}
use Rattle.session_phase.specs.declared.Speaker.TheVariants.{Terminal, Says, Shopper}
use Rattle.session_phase.specs.declared.Waiting.{Waiting}
use Rattle.session_phase.specs.declared.Waiting.TheVariants.{Searching, ForCard, ForWord, Decided, Closed}

-- the kind of the entry that has somebody's word
unfoldable pub kind_of : Speaker → ℕ
kind_of Terminal = start
kind_of (Says word count) = word_kind word
kind_of (Shopper shown) = choice

-- the kind of the entry that is due; 0, the kind of no entry, after a decision or a closing silence
unfoldable pub awaited : Waiting → ℕ
awaited Searching = answer
awaited (ForCard question) = answer
awaited (ForWord speaker) = kind_of speaker
awaited (Decided outcome reason) = 0
awaited Closed = 0

-- how many are wanted of what is counted in a word, as the results of cardholder verification are (02, R-7); 0 where nothing is
unfoldable pub wanted_of : Speaker → ℕ
wanted_of Terminal = 0
wanted_of (Says word count) = count
wanted_of (Shopper shown) = shown

unfoldable pub count_due : Waiting → ℕ
count_due Searching = 0
count_due (ForCard question) = 0
count_due (ForWord speaker) = wanted_of speaker
count_due (Decided outcome reason) = 0
count_due Closed = 0

-- nothing is due any more
unfoldable pub is_over : Waiting → Bool
is_over waiting = eqb (awaited waiting) 0

unfoldable pub is_decided : Waiting → Bool
is_decided Searching = false
is_decided (ForCard question) = false
is_decided (ForWord speaker) = false
is_decided (Decided outcome reason) = true
is_decided Closed = false

unfoldable pub is_closed : Waiting → Bool
is_closed Searching = false
is_closed (ForCard question) = false
is_closed (ForWord speaker) = false
is_closed (Decided outcome reason) = false
is_closed Closed = true

-- 1 approved, 2 declined, 3 terminated; 0 while there is no decision
unfoldable pub outcome_of : Waiting → ℕ
outcome_of Searching = 0
outcome_of (ForCard question) = 0
outcome_of (ForWord speaker) = 0
outcome_of (Decided outcome reason) = outcome
outcome_of Closed = 0

-- why the session was terminated; 0 where it was not
unfoldable pub reason_of : Waiting → ℕ
reason_of Searching = 0
reason_of (ForCard question) = 0
reason_of (ForWord speaker) = 0
reason_of (Decided outcome reason) = reason
reason_of Closed = 0
