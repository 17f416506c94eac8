-- `files::application_name` meets its contract.
-- Assumes nothing.
use mathlib.Core.Path.{ap, ◌∙◌}
use Prim.Native.Nat.{ℕ}
use Rattle.tlv_list.specs.Lookup.{Lookup}
use Rattle.answer_common.specs.Named.{value_of}
use Rattle.select_answers.specs.Files.{application_name}
use Rattle.select_answers.proofs.Selected.{outer_found}
use Rattle.select_answers.proofs.files.application_name.Goals as goal

pub returns : goal.returns
unfolding application_name
returns c =
    c.value_in_checked.ensures
    ∙ ap (λ (look : ℕ → Lookup). value_of (look 0x84))
    (outer_found c.args.answer.now c.inside.ensures)
