-- Behind each word there is less than with it. Assumes nothing.
use native.Mathlib.Omega.{arith}
use Rattle.text_lines.proofs.Ends.{after_shorter}
use Rattle.bench_answers.proofs.records.answer_each.Goals as goal

pub loop-left-smaller : goal.loop-left-smaller
loop-left-smaller g c = after_shorter c.loop-left.left.now _ c.after_word-left.ensures (omega arith)
