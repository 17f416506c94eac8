-- `last_rules` meets its contract: a bit for each number of the rules on the capture's end.
-- Assumes nothing.
use native.Mathlib.Omega.{arith}
use Rattle.atr_rules.specs.Lines.{is_long, last_lines, set_of}
use Rattle.atr_rules.proofs.Sums.{seven}
use Rattle.atr_rules.proofs.last_rules.Goals as goal

pub returns : goal.returns
unfolding set_of last_lines is_long
returns c = (
  seven c.one.ensures.0 c.one-2.ensures.0 c.one-3.ensures.0 c.one-4.ensures.0 c.one-5.ensures.0 c.one-6.ensures.0 c.one-7.ensures.0,
  omega arith,
)
