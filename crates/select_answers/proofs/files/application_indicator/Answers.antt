-- `files::application_indicator` meets its contract.
-- Assumes nothing.
use mathlib.Core.Path.{ap, ◌∙◌}
use Prim.Native.Nat.{ℕ}
use Rattle.tlv_list.specs.Lookup.{Lookup}
use Rattle.select_answers.specs.Objects.{indicator_of}
use Rattle.select_answers.specs.Files.{application_indicator}
use Rattle.select_answers.proofs.Selected.{inner_found}
use Rattle.select_answers.proofs.files.application_indicator.Goals as goal

pub returns : goal.returns
unfolding application_indicator
returns c =
    let a = c.args.answer.now in (
      c.indicator.ensures.0
          ∙ ap (λ (look : ℕ → Lookup). indicator_of (look 0x87)) (inner_found a c.proprietary.ensures),
      c.indicator.ensures.1,
    )
