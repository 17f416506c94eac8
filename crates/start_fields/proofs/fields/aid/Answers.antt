-- `start_fields::fields::aid` meets its contract: the AID is what the room begins with, as many bytes as the length says.
-- Assumes nothing.
use mathlib.Core.Path.{ap₂, ◌∙◌}
use mathlib.Core.List.{List}
use Prim.Native.Nat.{ℕ}
use lib.ListN.{take}
use Rattle.start_fields.specs.Reading.{reading_of}
use Rattle.start_fields.proofs.fields.aid.Goals as goal

pub returns : goal.returns
unfolding reading_of
returns c = c.part.ensures
    ∙ ap₂ (λ (n : ℕ) (room : List ℕ). take n room) c.aid_length.ensures c.aid_room.ensures
