-- The number beside the verdict of a tape (02, R-6): something is counted in the phases that its entries reach. It changes nothing of the
-- verdict.
-- Assumes nothing.
use Rattle.std.specs.Prelude.{◌≡◌, List, ℕ}
use Rattle.tape_read.specs.Entries.{Entry}
use Rattle.tape_read.specs.Tapes.{entries, unreadable, read_tape}
use Rattle.sessions.specs.Rules.{Phase, Rules}
use Rattle.verdict_under.specs.Counted.{Counts}

-- under rules, and whatever is counted in their phases
module _ {Asked Heard Situation : Type 0} (rules : Rules Asked Heard Situation) (count : Phase Asked Heard Situation → ℕ) where
  pub data ZeroedUnder (t : List ℕ) (n : ℕ) : Type 0 where
    readable : (es : List Entry) → read_tape t ≡ entries es → Counts rules count es n → ZeroedUnder t n
    -- of an unreadable tape nothing is counted
    damaged : (place code : ℕ) → read_tape t ≡ unreadable place code → n ≡ 0 → ZeroedUnder t n
