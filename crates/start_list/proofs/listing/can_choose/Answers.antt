-- `listing::can_choose` meets its contract.
-- Assumes nothing.
use mathlib.Core.Path.{ap}
use Prim.Native.Nat.{ℕ}
use lib.Dec.{eqb}
use Rattle.start_list.specs.Listing.{applications_in}
use Rattle.start_list.proofs.listing.can_choose.Goals as goal

pub returns : goal.returns
unfolding applications_in
returns c = ap (λ (n : ℕ). eqb n 1) c.choice_byte.ensures
