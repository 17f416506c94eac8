-- `session_second::second` meets its contract: the codes are those that the records told.
-- Assumes nothing.
use mathlib.Core.Path.{ap₂, ◌∙◌}
use mathlib.Core.List.{List}
use Prim.Native.Nat.{ℕ}
use Rattle.decide_requests.specs.Requests.{second_request}
use Rattle.start_fields.specs.Reading.{reading_of}
use Rattle.session_records.specs.Slots.{told_in, told}
use Rattle.session_state.specs.Reading.{situation_with, late}
use Rattle.session_second.proofs.second.Goals as goal

pub returns : goal.returns
unfolding late situation_with told
returns c =
    let a = c.args in
    c.second_request.ensures
    ∙ ap₂ (λ (x d : List ℕ). second_request a.reply (reading_of x) (told_in d) a.s.tvr)
    c.part.ensures c.bytes_of-told.ensures.0
