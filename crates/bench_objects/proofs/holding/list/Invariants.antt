-- `holding::list` is safe and ends: the reader goes ahead with each object that it finds. Assumes nothing.
use Rattle.std.proofs.Common.{length, ◌-◌}
use Rattle.bench_objects.proofs.holding.list.Given as goal

abbrev pub decreases-loop-tag : goal.decreases-loop-tag
decreases-loop-tag g l = length l.s - l.at
