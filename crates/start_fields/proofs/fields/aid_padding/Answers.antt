-- `start_fields::fields::aid_padding` meets its contract: what follows the AID reaches no further than the room.
-- Assumes nothing.
use mathlib.Core.Path.{ap₂, ◌∙◌}
use mathlib.Core.List.{List}
use Prim.Native.Nat.{ℕ}
use native.Mathlib.Omega.{arith}
use lib.ListN.{take, drop, length-take}
use Rattle.start_fields.specs.Reading.{aid_length_in, aid_room_in}
use Rattle.slices.proofs.Cutting.{to_end}
use Rattle.start_fields.proofs.fields.aid_padding.Goals as goal

pub returns : goal.returns
returns c =
    let s = c.args.s.now in
    c.part.ensures
    ∙ (ap₂ (λ (n : ℕ) (room : List ℕ). take 16 (drop n room)) c.aid_length.ensures c.aid_room.ensures
    ∙ to_end 16 (aid_length_in s) (aid_room_in s) (simp length-take (omega arith)))
