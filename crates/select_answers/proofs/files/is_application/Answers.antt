-- `files::is_application` meets its contract.
-- Assumes nothing.
use mathlib.Core.Path.{ap₂, ◌∙◌}
use Rattle.select_answers.specs.Files.{application_right, is_application}
use Rattle.select_answers.proofs.Selected.{outer_found, inner_found}
use Rattle.select_answers.proofs.files.is_application.Goals as goal

pub returns : goal.returns
unfolding is_application
returns c =
    let a = c.args.answer.now in
    c.is_application_in.ensures
    ∙ ap₂ application_right (outer_found a c.inside.ensures) (inner_found a c.proprietary.ensures)
