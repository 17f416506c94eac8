-- What is said of a tape by the entry that was due at its end.
-- Assumes nothing.
use Rattle.std.specs.Prelude.{ℕ}
use Rattle.verdict.specs.Saying.{says}
use Rattle.verdict.specs.declared.Verdict.TheVariants.{Pass, Fail, Inconclusive}
use Rattle.verdict.specs.declared.Ruling.{Ruling}
use Rattle.judge_stages.specs.declared.Stage.{Stage}
use Rattle.judge_stages.specs.declared.Stage.TheVariants.{Word, Command, Answer, Decision, Done, Closed, Broken}

-- what is said after so many entries
unfoldable pub said_at : Stage → ℕ → Ruling
said_at Word n = says Inconclusive n 0
said_at (Command size) n = says Inconclusive n 0
said_at Answer n = says Inconclusive n 0
said_at Decision n = says Inconclusive n 0
said_at Done n = says Pass n 0
said_at Closed n = says Inconclusive n 0
said_at (Broken place) n = says Fail place 0
