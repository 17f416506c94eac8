-- `is_supported` meets its contract: it tests the bit that the definition tests.
-- Assumes nothing.
use mathlib.Core.Path.{refl}
use Rattle.decide_verification.specs.Verification.{verification_supported}
use Rattle.decide_verification.proofs.is_supported.Goals as goal

pub returns : goal.returns
unfolding verification_supported
returns c = refl
