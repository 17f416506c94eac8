-- `joining::remove` meets its contract: rows moved down over the one that falls out, and the count.
-- Assumes nothing.
use mathlib.Core.Path.{sym, ap, ◌∙◌}
use Prim.Native.Nat.{suc, ◌-◌}
use native.Mathlib.Omega.{arith}
use Rattle.slices.specs.Writing.{laid}
use Rattle.select_list.specs.Kept.{kept_in, list_in}
use Rattle.select_list.specs.Steps.{counted}
use Rattle.select_list.proofs.Placing.{without_at, without_past}
use Rattle.select_list.proofs.Filling.{row_out}
use Rattle.select_list.proofs.Made.{read_without, kept_size}
use Rattle.select_list.proofs.joining.remove.Goals as goal

pub move_down-requires : goal.move_down-requires
move_down-requires c =
    let n = c.count-n.ensures in
    let size = kept_size c.args.list.now (omega (arith, n.1, c.if-i-n.true)) in
    omega (arith, n.1, n.2, c.if-i-n.true, size)

pub returns-then-i-n : goal.returns-then-i-n
returns-then-i-n c =
    let a = c.args in
    let n = c.count-n.ensures in
    let d = a.list.now in
    let size = kept_size d (omega (arith, n.1, c.if-i-n.true)) in
    read_without d _ a.i (suc a.i)
    (ap kept_in (c.set_count.ensures ∙ ap (laid (counted (c.count-n.result - 1)) 0) c.move_down.ensures)
    ∙ row_out d size a.i c.count-n.result n.1 c.if-i-n.true)
    ∙ sym (without_at a.i (list_in d))

pub returns-else-i-n : goal.returns-else-i-n
returns-else-i-n c =
    let a = c.args in
    sym (without_past a.i (list_in a.list.now) (omega (arith, c.count-n.ensures.0, c.if-i-n.false)))
