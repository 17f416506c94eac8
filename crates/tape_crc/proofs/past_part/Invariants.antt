-- `tape_crc::past_part` meets its contract. The loop's invariant: what is joined is what the register's bits from the top down to k
-- leave, and beside it stands what bit k leaves. Assumes nothing.
use mathlib.Core.Path.{◌≡◌}
use Prim.Native.Nat.{◌*◌, ◌/◌, ◌^◌, ◌≤◌}
use Rattle.tape_crc.specs.Check.{divided}
use Rattle.tape_crc.specs.Parts.{part}
use Rattle.tape_crc.proofs.past_part.Given as goal

abbrev pub invariant-loop-k : goal.invariant-loop-k
invariant-loop-k l =
    (l.k ≤ 32) × (l.left ≡ divided (8 * part) (2 ^ l.k)) × (l.r ≡ divided (8 * part) (l.register / 2 ^ l.k * 2 ^ l.k))
