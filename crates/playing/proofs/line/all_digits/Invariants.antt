-- What is left is digits exactly where the whole text is. Assumes nothing.
use Rattle.std.proofs.Common.{◌≡◌, drop}
use Rattle.playing.specs.Lines.{all_digits}
use Rattle.playing.proofs.line.all_digits.Given as goal

abbrev pub invariant-loop-b : goal.invariant-loop-b
invariant-loop-b l = all_digits (drop l.b-index l.s) ≡ all_digits l.s
