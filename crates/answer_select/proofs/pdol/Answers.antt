-- `answer_select::pdol` meets its contract: 9F38 in A5's value.
-- Assumes nothing.
use mathlib.Core.Path.{ap, ◌∙◌}
use Prim.Native.Nat.{ℕ}
use Rattle.tlv_list.specs.Lookup.{Lookup}
use Rattle.answer_common.specs.Named.{value_of}
use Rattle.answer_select.specs.Select.{pdol_of}
use Rattle.answer_select.proofs.Inside.{inner_found}
use Rattle.answer_select.proofs.pdol.Goals as goal

pub returns : goal.returns
unfolding pdol_of
returns c = c.value_in_checked.ensures
    ∙ ap (λ (look : ℕ → Lookup). value_of (look 0x9F38)) (inner_found _ c.proprietary.ensures)
