-- What a law of the rulebook is stated with: that no bit is cleared. 01, "From facts to a decision".
-- Assumes nothing.
use Rattle.std.specs.Prelude.{◌≡◌, List}
use Rattle.sessions.specs.Stated.{InRow}
use Rattle.decide_tvr.specs.Bits.{joined}
use Rattle.rulebook.specs.Phase.{Phase, tvr_of, tsi_of}

-- every bit that is set in a phase is set in another
pub record Grows (p q : Phase) : Type 0 where
  pub tvr : joined (tvr_of p) (tvr_of q) ≡ tvr_of q
  pub tsi : joined (tsi_of p) (tsi_of q) ≡ tsi_of q

-- phases in a row, no bit cleared from one to the next
abbrev pub Growing : List Phase → Type 0
Growing = InRow Grows
