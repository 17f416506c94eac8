-- `entries` is safe and ends: each member ends behind the place where it was found. Assumes nothing.
use Rattle.std.proofs.Common.{length, ◌-◌}
use Rattle.bench_select.proofs.read.entries.Given as goal

abbrev pub decreases-loop-tag : goal.decreases-loop-tag
decreases-loop-tag g l = length l.s - l.p
