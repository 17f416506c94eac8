-- `quick_check::register::after` meets its contract. The loop's invariant: the register so far, taken over the bytes that are left, gives
-- what the whole gives, and four bytes and a number of eights are behind. Assumes nothing.
use mathlib.Core.Path.{◌≡◌}
use Prim.Native.Nat.{◌+◌, ◌*◌}
use lib.ListN.{drop}
use Rattle.tape_crc.specs.Check.{running_of, ones}
use Rattle.quick_check.proofs.register.after.Given as goal

abbrev pub invariant-loop-k : goal.invariant-loop-k
invariant-loop-k l = running_of l.r (drop (4 + 8 * l.k) l.s) ≡ running_of ones l.s
