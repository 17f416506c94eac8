-- `rows::name` meets its contract.
-- Assumes nothing.
use mathlib.Core.Path.{ap₂, ◌∙◌}
use mathlib.Core.List.{List}
use Prim.Native.Nat.{ℕ}
use lib.ListN.{take}
use Rattle.start_list.specs.Rows.{name_in}
use Rattle.start_list.proofs.rows.name.Goals as goal

pub returns : goal.returns
unfolding name_in
returns c = c.part.ensures
    ∙ ap₂ (λ (n : ℕ) (room : List ℕ). take n room) c.byte.ensures.0 c.room.ensures
