-- `tsi_after_results` meets its contract: it joins the byte that the definition joins.
-- Assumes nothing.
use Rattle.decide_verification.specs.Verification.{tsi_after_results}
use Rattle.decide_verification.proofs.tsi_after_results.Goals as goal

pub returns : goal.returns
unfolding tsi_after_results
returns c = c.join.ensures
