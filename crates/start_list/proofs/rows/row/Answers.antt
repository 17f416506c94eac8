-- `rows::row` meets its contract: past the last byte there is no row.
-- Assumes nothing.
use mathlib.Core.Path.{sym, ◌∙◌}
use Prim.Native.Nat.{◌*◌}
use native.Mathlib.Omega.{arith}
use Rattle.slices.proofs.Cutting.{past_end}
use Rattle.start_list.proofs.rows.row.Goals as goal

pub returns-then-s-k : goal.returns-then-s-k
returns-then-s-k c =
    let a = c.args in
    c.part.ensures ∙ sym (past_end 18 (18 * a.k) a.s.now (omega arith))
