-- `joining::insert` meets its contract: rows moved up, the row in their place, the count.
-- Assumes nothing.
use mathlib.Core.Path.{ap, ◌∙◌}
use Prim.Native.Nat.{◌+◌, ◌*◌}
use Rattle.slices.specs.Writing.{laid}
use Rattle.select_list.specs.Kept.{kept_in}
use Rattle.select_list.specs.Steps.{counted}
use Rattle.select_list.proofs.Filling.{row_in}
use Rattle.select_list.proofs.joining.insert.Goals as goal

pub returns : goal.returns
returns c =
    let a = c.args in
    let h = c.requires in
    ap kept_in
    (c.set_count.ensures
    ∙ ap (laid (counted (a.m + 1)) 0) (c.lay.ensures ∙ ap (laid a.row.now (2 + 18 * a.p)) c.move_up.ensures))
    ∙ row_in a.list.now h.0 a.p a.m h.1 h.2 h.3 a.row.now h.4
