-- `session_answers::names_of` meets its contract: what counts of START's bytes says which names count.
-- Assumes nothing.
use mathlib.Core.Path.{ap, ◌∙◌}
use mathlib.Core.List.{List}
use Prim.Native.Nat.{ℕ}
use Rattle.start_fields.specs.Reading.{reading_of}
use Rattle.answer_common.specs.Content.{names_for}
use Rattle.session_state.specs.Reading.{situation_with, late}
use Rattle.session_answers.proofs.names_of.Goals as goal

pub returns : goal.returns
unfolding late situation_with
returns c =
    (c.names_for.ensures.1 ∙ ap (λ (x : List ℕ). names_for (reading_of x)) c.part.ensures, c.names_for.ensures.2)
