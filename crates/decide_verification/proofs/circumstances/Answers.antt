-- `circumstances` meets its contract: each field by its own function.
-- Assumes nothing.
use Rattle.decide_verification.specs.Verification.{circumstances_of}
use Rattle.decide_verification.proofs.circumstances.Goals as goal

pub returns : goal.returns
unfolding circumstances_of
returns c =
    λ i. record {
      amount = c.amount.ensures.0 i;
      other = c.other_amount.ensures.0 i;
      kind = c.octet.ensures i;
      home = c.is_home.ensures i;
      means = c.octet-2.ensures i;
    }
