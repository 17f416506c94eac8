-- `files::proprietary` meets its contract.
-- Assumes nothing.
use mathlib.Core.Path.{ap, ◌∙◌}
use Prim.Native.Nat.{ℕ}
use Rattle.tlv_list.specs.Lookup.{Lookup}
use Rattle.answer_common.specs.Named.{value_of}
use Rattle.select_answers.proofs.Selected.{outer_found}
use Rattle.select_answers.proofs.files.proprietary.Goals as goal

pub returns : goal.returns
returns c =
    c.value_in_checked.ensures
    ∙ ap (λ (look : ℕ → Lookup). value_of (look 0xA5))
    (outer_found c.args.answer.now c.inside.ensures)
