-- `answer_select::proprietary` meets its contract: A5 in 6F's value.
-- Assumes nothing.
use mathlib.Core.Path.{ap, ◌∙◌}
use Prim.Native.Nat.{ℕ}
use Rattle.tlv_list.specs.Lookup.{Lookup}
use Rattle.answer_common.specs.Named.{value_of}
use Rattle.answer_select.proofs.Inside.{select_found}
use Rattle.answer_select.proofs.proprietary.Goals as goal

pub returns : goal.returns
returns c = c.value_in_checked.ensures ∙ ap (λ (look : ℕ → Lookup). value_of (look 0xA5)) (select_found _ c.inside.ensures)
