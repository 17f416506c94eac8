-- `repeat` stays within the buffer: each turn lays what still fits. Assumes nothing.
use Rattle.std.proofs.Common.{length, ◌≤◌, ◌≡◌}
use Rattle.bench_tape.proofs.repeat.Given as goal

abbrev pub invariant-loop : goal.invariant-loop
invariant-loop l = (l.at ≤ length l.t) × (length l.t ≡ length l.initial.t)
