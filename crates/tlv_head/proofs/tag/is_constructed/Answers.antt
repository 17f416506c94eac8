-- `tag::is_constructed` meets its contract: it tests the first byte that `first_byte` gives.
-- Assumes nothing.
use mathlib.Core.Path.{ap}
use Prim.Native.Nat.{ℕ, ◌/◌, ◌%◌}
use lib.Dec.{eqb}
use Rattle.tlv_head.specs.Head.{constructed}
use Rattle.tlv_head.proofs.tag.is_constructed.Goals as goal

pub returns : goal.returns
unfolding constructed
returns c = ap (λ (b : ℕ). eqb (b / 32 % 2) 1) c.first_byte-first.ensures
