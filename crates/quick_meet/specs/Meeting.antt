-- What stands at a block of a tape beside what is due there: it stands there and the session goes on, or something is said of the tape.
-- Nobody need believe it: that it is what the rules say is proved (proofs/Found). 01, "The tape"; demand 3.
-- Assumes nothing.
use Rattle.std.specs.Prelude.{Bool, List, ℕ, ◌+◌, ◌/◌, eqb, leb, length, Result, Ok, Err}
use Rattle.slices.specs.Choice.{pick}
use Rattle.slices.specs.Tests.{alike}
use Rattle.numbers.specs.Tables.{command, answer, silence, decision}
use Rattle.tape_read.specs.Entries.{block_size}
use Rattle.tape_read.specs.Blocks.{kind_in, payload_in}
use Rattle.tape_read.specs.Tapes.{block_at}
use Rattle.verdict.specs.Saying.{says, finds}
use Rattle.verdict.specs.declared.Verdict.TheVariants.{Pass, Fail, Inconclusive}
use Rattle.verdict.specs.declared.Ruling.{Ruling}
use Rattle.verdict.specs.declared.Finding.{Finding}

abbrev pub kind_at : ℕ → List ℕ → ℕ
kind_at k t = kind_in (block_at k t)

abbrev pub payload_at : ℕ → List ℕ → List ℕ
payload_at k t = payload_in (block_at k t)

-- the tape has no block there
unfoldable pub is_end : List ℕ → ℕ → Bool
is_end t k = leb (length t / block_size) k

-- what is due stands there, or what is said of the tape
abbrev pub Met : Type 0
Met = Result Unit Ruling

-- the tape ends, after so many entries
unfoldable pub ends : ℕ → Met
ends k = Err (says Inconclusive k 0)

-- the rules are broken at an entry
unfoldable pub breaks : ℕ → Met
breaks k = Err (says Fail k 0)

-- what is found, where so many list entries are zeros, and where it goes on this is found of the rest
unfoldable pub goes_on : Met → ℕ → Finding → Finding
goes_on (Ok there) filled rest = rest
goes_on (Err said) filled rest = finds said filled

-- an entry of a kind
unfoldable pub word_met : ℕ → ℕ → List ℕ → Met
word_met kind k t = pick (is_end t k) (ends k) (pick (eqb (kind_at k t) kind) (Ok tt) (breaks k))

-- nothing may follow a closing silence
unfoldable pub closed_met : ℕ → List ℕ → Met
closed_met k t = pick (is_end t k) (ends k) (breaks k)

unfoldable pub silence_met : ℕ → List ℕ → Met
silence_met k t =
    pick (eqb (kind_at k t) silence) (pick (eqb (length (payload_at k t)) 0) (closed_met (k + 1) t) (breaks k)) (breaks k)

-- the card's answer, or its silence
unfoldable pub answer_met : ℕ → List ℕ → Met
answer_met k t = pick (is_end t k) (ends k) (pick (eqb (kind_at k t) answer) (Ok tt) (silence_met k t))

-- a command, and then the card's answer
unfoldable pub exchange_met : List ℕ → ℕ → List ℕ → Met
exchange_met c k t =
    pick (is_end t k) (ends k)
    (pick (eqb (kind_at k t) command) (pick (alike (payload_at k t) c) (answer_met (k + 1) t) (breaks k)) (breaks k))

-- DECISION with these bytes, and nothing behind it
unfoldable pub last_met : ℕ → ℕ → List ℕ → Finding
last_met k zeros t = pick (is_end t k) (finds (says Pass k 0) zeros) (finds (says Fail k 0) zeros)

unfoldable pub decision_met : List ℕ → ℕ → ℕ → List ℕ → Finding
decision_met d k zeros t =
    goes_on (word_met decision k t) zeros (pick (alike (payload_at k t) d) (last_met (k + 1) zeros t) (finds (says Fail k 0) zeros))
