-- `object_at` meets its contract. The loop's invariant: what stands there after the steps that are left is what was asked for.
-- Assumes nothing.
use mathlib.Core.Path.{◌≡◌}
use Prim.Native.Nat.{◌-◌}
use Rattle.tlv_reader.specs.Held.{nth_from}
use Rattle.tlv_reader.proofs.object_at.Given as goal

abbrev pub invariant-loop : goal.invariant-loop
invariant-loop l = nth_from (l.n - l.counter) l.s l.at ≡ nth_from l.n l.s 0
