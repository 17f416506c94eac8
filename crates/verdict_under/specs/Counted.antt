-- A number beside sessions under rules: something is counted in each phase that is reached, and summed over the entries (02, R-6). No rule
-- knows of it.
-- Assumes nothing.
use Rattle.std.specs.Prelude.{◌≡◌, List, [], ◌∷◌, ◌++◌, ◌⊎◌, ℕ, ◌+◌, length, take}
use Rattle.numbers.specs.Tables.{silence}
use Rattle.tape_read.specs.Entries.{Entry, entry}
use Rattle.sessions.specs.Rules.{Phase, Rules}
use Rattle.sessions.specs.Session.{Plays, exchanged, heard, decided, AwaitsCard, BreaksAt}

unfoldable pub sum : List ℕ → ℕ
sum [] = 0
sum (n ∷ ns) = n + sum ns

module _ {Asked Heard Situation : Type 0} (rules : Rules Asked Heard Situation) (count : Phase Asked Heard Situation → ℕ) where
  open rules use {opens, turn, after}

  -- what each entry of a session adds. What a phase counts is counted at the entry that leads to it, and not at the command
  unfoldable pub added_by : {p : Phase Asked Heard Situation} {es : List Entry} → Plays rules p es → List ℕ
  added_by (exchanged {w} {c} {a} same ok play) = 0 ∷ count (turn w a) ∷ added_by play
  added_by (heard {h} {k} {p} same fits ok play) = count (after h p) ∷ added_by play
  added_by (decided same) = 0 ∷ []

  -- the sum over entries that some session begins with
  unfoldable pub Summed : List Entry → ℕ → Type 0
  Summed es n = (rest : List Entry) × ((play : Plays rules opens (es ++ rest)) × (n ≡ sum (take (length es) (added_by play))))

  -- and over those that are closed by silence, which adds nothing
  unfoldable pub SummedClosed : List Entry → ℕ → Type 0
  SummedClosed es n = (before : List Entry) × (Summed before n × (AwaitsCard rules before × (es ≡ before ++ (entry silence [] ∷ []))))

  unfoldable pub SumOf : List Entry → ℕ → Type 0
  SumOf es n = Summed es n ⊎ SummedClosed es n

  -- the number of any entries; where the rules are broken, the sum before the entry at which they are
  pub data Counts (es : List Entry) (n : ℕ) : Type 0 where
    lawful : SumOf es n → Counts es n
    broken : (k : ℕ) → BreaksAt rules es k → SumOf (take k es) n → Counts es n
