-- `event::on_answer` meets its contract: an answer to GENERATE AC is not kept.
-- Assumes nothing.
use mathlib.Core.Path.{sym, ap, ◌∙◌}
use Rattle.session_phase.specs.declared.Question.{Question}
use Rattle.session_state.specs.Reading.{asked_by}
use Rattle.session_answers.specs.Keeping.{keeping}
use Rattle.session_events.specs.Events.{answer_step}
use Rattle.session_events.proofs.event.on_answer.Goals as goal

pub returns-in-First : goal.returns-in-First
unfolding answer_step asked_by keeping
returns-in-First c =
    let args = c.args in
    c.on_first.ensures ∙ sym (ap (λ (x : Question). answer_step x args.s args.a.now args.buf.now) c.in-First.is)

pub returns-in-Second : goal.returns-in-Second
unfolding answer_step asked_by keeping
returns-in-Second c =
    let args = c.args in
    c.on_second.ensures ∙ sym (ap (λ (x : Question). answer_step x args.s args.a.now args.buf.now) c.in-Second.is)
