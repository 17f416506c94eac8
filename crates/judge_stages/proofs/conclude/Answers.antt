-- `judge_stages::conclude` meets its contract: each arm is the definition's at that stage.
-- Assumes nothing.
use mathlib.Core.Path.{sym, ap, ◌∙◌}
use Rattle.judge_stages.specs.declared.Stage.{Stage}
use Rattle.judge_stages.specs.Stages.{said_at}
use Rattle.judge_stages.proofs.conclude.Goals as goal

pub returns-in-Done : goal.returns-in-Done
unfolding said_at
returns-in-Done c =
    let n = c.args.entries in
    c.ruling.ensures ∙ sym (ap (λ (x : Stage). said_at x n) c.in-Done.is)

pub returns-in-Broken : goal.returns-in-Broken
unfolding said_at
returns-in-Broken c =
    let n = c.args.entries in
    c.ruling-in-Broken.ensures ∙ sym (ap (λ (x : Stage). said_at x n) c.in-Broken.is)

pub returns-in-Word : goal.returns-in-Word
unfolding said_at
returns-in-Word c =
    let n = c.args.entries in
    c.ruling-in-Word.ensures ∙ sym (ap (λ (x : Stage). said_at x n) c.in-Word.is)

pub returns-in-Command : goal.returns-in-Command
unfolding said_at
returns-in-Command c =
    let n = c.args.entries in
    c.ruling-in-Command.ensures ∙ sym (ap (λ (x : Stage). said_at x n) c.in-Command.is)

pub returns-in-Answer : goal.returns-in-Answer
unfolding said_at
returns-in-Answer c =
    let n = c.args.entries in
    c.ruling-in-Answer.ensures ∙ sym (ap (λ (x : Stage). said_at x n) c.in-Answer.is)

pub returns-in-Decision : goal.returns-in-Decision
unfolding said_at
returns-in-Decision c =
    let n = c.args.entries in
    c.ruling-in-Decision.ensures ∙ sym (ap (λ (x : Stage). said_at x n) c.in-Decision.is)

pub returns-in-Closed : goal.returns-in-Closed
unfolding said_at
returns-in-Closed c =
    let n = c.args.entries in
    c.ruling-in-Closed.ensures ∙ sym (ap (λ (x : Stage). said_at x n) c.in-Closed.is)
