-- `records::answer_each` is safe and ends: behind each word there is less than with it. Assumes nothing.
use Rattle.std.proofs.Common.{length, ◌≡◌}
use Rattle.bench_answers.proofs.records.answer_each.Given as goal

abbrev pub invariant-loop-left : goal.invariant-loop-left
invariant-loop-left g l = length l.told ≡ 817

abbrev pub decreases-loop-left : goal.decreases-loop-left
decreases-loop-left g l = length l.left
