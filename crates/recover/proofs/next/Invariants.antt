-- `recover::next` meets its contract. The loop's invariant: what is next from where it stands is what is next from where it began.
-- Assumes nothing.
use mathlib.Core.Path.{◌≡◌}
use Rattle.recover.specs.Salvage.{next_from}
use Rattle.recover.proofs.next.Given as goal

abbrev pub invariant-loop-k : goal.invariant-loop-k
invariant-loop-k l = next_from l.bytes l.k ≡ next_from l.bytes l.step
