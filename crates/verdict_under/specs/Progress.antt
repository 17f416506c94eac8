-- How the verdict is found: the entries of a tape read one by one by the machine of the rules. What a verdict is stands in Judged, without
-- it; that this finds the verdict of every tape is proved (Meaning), so nobody need believe it.
-- Assumes nothing.
use Rattle.std.specs.Prelude.{Bool, true, false, ◌&&◌, List, [], ◌∷◌, ℕ, ◌+◌, eqb}
use Rattle.std.proofs.Math.Option.{Option, none, some}
use Rattle.slices.specs.Choice.{pick}
use Rattle.numbers.specs.Tables.{silence}
use Rattle.tape_read.specs.Entries.{Entry}
use Rattle.tape_read.specs.Tapes.{Reading, entries, unreadable, read_tape}
use Rattle.sessions.specs.Rules.{Phase, Rules}
use Rattle.sessions.specs.Machine.{Machine, at, owes, done, next}
use Rattle.verdict.specs.Saying.{says}
use Rattle.verdict.specs.declared.Verdict.TheVariants.{Pass, Fail, Inconclusive, Unreadable}
use Rattle.verdict.specs.declared.Ruling.{Ruling}
use Rattle.verdict_under.specs.Summing.{new_in}

pub data Progress (Asked Heard Situation : Type 0) : Type 0 where
  -- no rule is broken: where the machine stands, and how many entries were read
  reached : Machine Asked Heard Situation → ℕ → Progress Asked Heard Situation
  -- the last of so many entries was a closing silence
  closed : ℕ → Progress Asked Heard Situation
  -- the entry at which the rules were first broken
  broken : ℕ → Progress Asked Heard Situation

unfoldable pub empty : List ℕ → Bool
empty [] = true
empty (b ∷ bs) = false

module _ {A H S : Type 0} where
  -- a silence with no payload, where the card owes an answer
  unfoldable pub closes : Machine A H S → Entry → Bool
  closes (at p) e = false
  closes (owes w) e = eqb e.kind silence && empty e.payload
  closes done e = false

  -- after an entry that the machine takes, or refuses
  unfoldable pub onward : Machine A H S → ℕ → Entry → Option (Machine A H S) → Progress A H S
  onward σ n e (some τ) = reached τ (n + 1)
  onward σ n e none = pick (closes σ e) (closed (n + 1)) (broken n)

  -- what is said where the entries end
  unfoldable pub concluded : Progress A H S → Ruling
  concluded (reached (at p) n) = says Inconclusive n 0
  concluded (reached (owes w) n) = says Inconclusive n 0
  concluded (reached done n) = says Pass n 0
  concluded (closed n) = says Inconclusive n 0
  concluded (broken k) = says Fail k 0

  -- what the last entry added to the number beside the verdict: nothing, where it was not taken
  unfoldable pub new_by : (Phase A H S → ℕ) → Progress A H S → ℕ
  new_by count (reached σ n) = new_in count σ
  new_by count (closed n) = 0
  new_by count (broken k) = 0

module _ {A H S : Type 0} (rules : Rules A H S) where
  -- before any entry
  abbrev pub begun : Progress A H S
  begun = reached (at rules.opens) 0

  -- one entry further: nothing may follow a closing silence, and what is broken stays broken
  unfoldable pub reads : Progress A H S → Entry → Progress A H S
  reads (reached σ n) e = onward σ n e (next rules σ e)
  reads (closed n) e = broken n
  reads (broken k) e = broken k

  unfoldable pub reads_all : Progress A H S → List Entry → Progress A H S
  reads_all m [] = m
  reads_all m (e ∷ es) = reads_all (reads m e) es

  abbrev pub progress_of : List Entry → Progress A H S
  progress_of es = reads_all begun es

  -- what is said in the end, where the rest of a tape reads as this
  unfoldable pub finally : Progress A H S → Reading → Ruling
  finally m (entries es) = concluded (reads_all m es)
  finally m (unreadable place code) = says Unreadable place code

  -- the verdict of a tape
  unfoldable pub verdict_of : List ℕ → Ruling
  verdict_of t = finally begun (read_tape t)
