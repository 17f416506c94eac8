-- `tape_crc::pair`, the loop's invariant: each register so far, taken over what is left of its part, gives what the whole part gives, the
-- second from nothing. Assumes nothing.
use mathlib.Core.Path.{◌≡◌}
use Prim.Native.Nat.{◌*◌}
use lib.ListN.{drop}
use Rattle.tape_crc.specs.Check.{running_of}
use Rattle.tape_crc.proofs.pair.Given as goal

abbrev pub invariant-loop-k : goal.invariant-loop-k
invariant-loop-k l =
    (running_of l.r (drop (4 * l.k) l.first) ≡ running_of l.register l.first)
    × (running_of l.q (drop (4 * l.k) l.second) ≡ running_of 0 l.second)
