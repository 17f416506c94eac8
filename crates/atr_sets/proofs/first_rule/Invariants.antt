-- `first_rule` meets its contract. The loop's invariant: the lowest of the bits that are left is the lowest of all.
-- Assumes nothing.
use mathlib.Core.Path.{◌≡◌}
use Prim.Native.Nat.{◌+◌, ◌-◌}
use Rattle.atr_rules.specs.Names.{numbers}
use Rattle.atr_sets.specs.Sets.{lowest}
use Rattle.atr_sets.proofs.first_rule.Given as goal

abbrev pub invariant-loop-k : goal.invariant-loop-k
invariant-loop-k l = lowest (numbers + 1 - l.k) l.k l.left ≡ lowest numbers 1 l.rules
