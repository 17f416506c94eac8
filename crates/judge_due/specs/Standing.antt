-- What is due where a judgement stands, as the code finds it. Nobody need believe it: that it is what the rulebook has due after the
-- entries that were read is proved (proofs/Fed).
-- Assumes nothing.
use Rattle.std.specs.Prelude.{List, None, Some, ℕ, take}
use Rattle.numbers.specs.Tables.{command, answer, decision}
use Rattle.session_phase.specs.Waiting.{awaited, count_due}
use Rattle.session_state.specs.Results.{decision_in}
use Rattle.judge_stages.specs.declared.Stage.{Stage}
use Rattle.judge_stages.specs.declared.Stage.TheVariants.{Word, Command, Answer, Decision, Done, Closed, Broken}
use Rattle.judge_follow.specs.declared.Judgement.{Judgement}
use Rattle.judge.specs.declared.UnderWay.{UnderWay}
use Rattle.judge_due.specs.declared.DueNext.{DueNext}
use Rattle.judge_due.specs.Telling.{numbers, Handed, handed, with_bytes}

unfoldable pub word_due : Judgement → DueNext
word_due j = numbers (awaited j.state.waiting) (count_due j.state.waiting)

unfoldable pub command_due : ℕ → Judgement → List ℕ → Handed
command_due n j out = with_bytes command (take n j.command) out

unfoldable pub decision_due : Judgement → List ℕ → Handed
decision_due j out = with_bytes decision (decision_in j.state) out

unfoldable pub stage_due : Stage → Judgement → List ℕ → Handed
stage_due Word j out = handed (Some (word_due j)) out
stage_due (Command n) j out = command_due n j out
stage_due Answer j out = handed (Some (numbers answer 0)) out
stage_due Decision j out = decision_due j out
stage_due Done j out = handed None out
stage_due Closed j out = handed None out
stage_due (Broken place) j out = handed None out

unfoldable pub due_of : UnderWay → List ℕ → Handed
due_of u out = stage_due u.dialogue.stage u.dialogue out
