-- `quick_check::register::past` meets its contract. The loop's invariant: what is joined is what the register's bits from the top down to
-- k leave. Assumes nothing.
use mathlib.Core.Path.{◌≡◌}
use Prim.Native.Nat.{◌*◌, ◌/◌, ◌^◌, ◌≤◌}
use Rattle.tape_crc.specs.Check.{divided}
use Rattle.quick_check.specs.Tables.{step}
use Rattle.quick_check.proofs.register.past.Given as goal

abbrev pub invariant-loop-k : goal.invariant-loop-k
invariant-loop-k l = (l.k ≤ 32) × (l.r ≡ divided (8 * (step * l.times)) (l.register / 2 ^ l.k * 2 ^ l.k))
