-- `tape_crc::whole` meets its contract: the running check from all ones, complemented, is the definition.
-- Assumes nothing.
use mathlib.Core.Path.{ap}
use Prim.Native.Nat.{ℕ}
use lib.Bits.{bit_xor}
use Rattle.tape_crc.specs.Check.{check_of, ones}
use Rattle.tape_crc.proofs.whole.Goals as goal

pub returns : goal.returns
unfolding check_of
returns c = ap (λ (r : ℕ). bit_xor r ones) c.running.ensures
