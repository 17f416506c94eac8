-- Where a reading by today's rules stands, in an edition that adds to them (Later of rulebook): each state and each progress that was
-- stands for itself, and an entry is one of today's wherever it is no START of the edition's own. 02, R-12.
-- Assumes nothing.
use Rattle.std.proofs.Math.Option.{Option, none, some}
use Rattle.tape_read.specs.Entries.{Entry}
use Rattle.sessions.specs.Machine as Under
use Rattle.rulebook.specs.Situation.{Situation}
use Rattle.rulebook.specs.Phase.{terminal, says, asks, hears, decides}
use Rattle.rulebook.specs.Machine.{Machine, at, owes, done}
use Rattle.rulebook.specs.Later.{AskedLater, HeardLater, Added, as_was, Earlier}
use Rattle.verdict_under.specs.Progress as ProgressUnder
use Rattle.verdict_judged.specs.Progress.{Progress, reached, closed, broken}

module _ (A H : Type 0) where
  -- the states and the progress of a reading by the edition
  abbrev pub MachineLater : Type 0
  MachineLater = Under.Machine (AskedLater A) (HeardLater H) Situation

  abbrev pub ProgressLater : Type 0
  ProgressLater = ProgressUnder.Progress (AskedLater A) (HeardLater H) Situation

module _ {A H : Type 0} where
  unfoldable pub was_state : Machine → MachineLater A H
  was_state (at p) = at (as_was p)
  was_state (owes w) = owes (AskedLater.was w)
  was_state done = done

  unfoldable pub was_next : Option Machine → Option (MachineLater A H)
  was_next none = none
  was_next (some σ) = some (was_state σ)

  unfoldable pub was_progress : Progress → ProgressLater A H
  was_progress (reached σ n) = reached (was_state σ) n
  was_progress (closed n) = closed n
  was_progress (broken k) = broken k

-- START has been read
abbrev pub Started : Machine → Type 0
Started (at (asks w)) = Unit {0}
Started (at (hears terminal)) = ⊥
Started (at (hears (says word s))) = Unit {0}
Started (at (decides outcome reason s)) = Unit {0}
Started (owes w) = Unit {0}
Started done = Unit {0}

abbrev pub StartRead : Progress → Type 0
StartRead (reached σ n) = Started σ
StartRead (closed n) = Unit {0}
StartRead (broken k) = Unit {0}

module _ {A H : Type 0} (added : Added A H) where
  -- where START is due the entry has none of the edition's own; elsewhere it is any
  abbrev pub OfToday : Machine → Entry → Type 0
  OfToday (at (asks w)) e = Unit {0}
  OfToday (at (hears terminal)) e = Earlier added e.payload
  OfToday (at (hears (says word s))) e = Unit {0}
  OfToday (at (decides outcome reason s)) e = Unit {0}
  OfToday (owes w) e = Unit {0}
  OfToday done e = Unit {0}

  abbrev pub ReadsToday : Progress → Entry → Type 0
  ReadsToday (reached σ n) e = OfToday σ e
  ReadsToday (closed n) e = Unit {0}
  ReadsToday (broken k) e = Unit {0}
