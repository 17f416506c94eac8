-- The fourth number of a tape where the application is chosen (02, R-6 and R-12): how many entries of its object lists were filled with
-- zeros for want of a value. It stands beside the verdict and changes nothing of it; `ZeroedUnder` of verdict_under says what it is under
-- any rules.
-- Assumes nothing.
use Rattle.std.specs.Prelude.{List, ℕ}
use Rattle.rulebook_choosing.specs.Session.{rules}
use Rattle.choosing_zeros.specs.Zeros.{unsupplied_later}
use Rattle.verdict_under.specs.Zeroed.{ZeroedUnder}
pub use Rattle.verdict_under.specs.Zeroed.{readable, damaged}

-- by the rules with choosing: the entries of object lists that are not supplied
abbrev pub Zeroed : List ℕ → ℕ → Type 0
Zeroed = ZeroedUnder rules unsupplied_later
