-- `session_first::reason` meets its contract: the reason over what the store tells.
-- Assumes nothing.
use mathlib.Core.Path.{ap, ◌∙◌}
use mathlib.Core.List.{List}
use Prim.Native.Nat.{ℕ}
use Rattle.answer_record.specs.Records.{after_records}
use Rattle.session_records.specs.Slots.{told_in, told}
use Rattle.session_first.proofs.reason.Goals as goal

pub returns : goal.returns
unfolding told
returns c = c.complete_reason.ensures ∙ ap (λ (d : List ℕ). after_records (told_in d)) c.bytes_of-told.ensures.0
