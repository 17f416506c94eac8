-- The word for each kind of entry, as every program writes it, and which of them are followed by a number. 01, "The tape"; 02, R-7.
-- Assumes nothing.
use Rattle.std.specs.Prelude.{Bool, List, [], ◌∷◌, ℕ, eqb}
use Rattle.slices.specs.Tables.{beside}
use Rattle.numbers.specs.Tables.{start, command, answer, silence, host, decision, results}

-- NOTHING: the kind of no entry
abbrev pub nothing : List ℕ
nothing = 0x4E ∷ 0x4F ∷ 0x54 ∷ 0x48 ∷ 0x49 ∷ 0x4E ∷ 0x47 ∷ []

-- START, COMMAND, ANSWER, SILENCE, HOST, DECISION, RESULTS
abbrev pub words : List (ℕ × List ℕ)
words =
    (start, 0x53 ∷ 0x54 ∷ 0x41 ∷ 0x52 ∷ 0x54 ∷ [])
    ∷ (command, 0x43 ∷ 0x4F ∷ 0x4D ∷ 0x4D ∷ 0x41 ∷ 0x4E ∷ 0x44 ∷ [])
    ∷ (answer, 0x41 ∷ 0x4E ∷ 0x53 ∷ 0x57 ∷ 0x45 ∷ 0x52 ∷ [])
    ∷ (silence, 0x53 ∷ 0x49 ∷ 0x4C ∷ 0x45 ∷ 0x4E ∷ 0x43 ∷ 0x45 ∷ [])
    ∷ (host, 0x48 ∷ 0x4F ∷ 0x53 ∷ 0x54 ∷ [])
    ∷ (decision, 0x44 ∷ 0x45 ∷ 0x43 ∷ 0x49 ∷ 0x53 ∷ 0x49 ∷ 0x4F ∷ 0x4E ∷ [])
    ∷ (results, 0x52 ∷ 0x45 ∷ 0x53 ∷ 0x55 ∷ 0x4C ∷ 0x54 ∷ 0x53 ∷ [])
    ∷ []

abbrev pub word_of : ℕ → List ℕ
word_of kind = beside nothing kind words

-- of the results of cardholder verification it is told how many are due
abbrev pub counts : ℕ → Bool
counts kind = eqb kind results
