-- `reading::row_at` meets its contract.
-- Assumes nothing.
use mathlib.Core.Path.{sym, ap, ◌∙◌}
use mathlib.Core.List.{List, []}
use Prim.Native.Nat.{ℕ, ◌*◌, ◌≤◌, ◌<◌}
use native.Mathlib.Omega.{arith}
use lib.ListN.{length, take, drop, get_or-eq_default}
use Rattle.select_list.specs.Kept.{kept_in}
use Rattle.select_list.proofs.Keeping.{kept_row}
use Rattle.select_list.proofs.reading.row_at.Goals as goal

pub returns-then-i-count : goal.returns-then-i-count
returns-then-i-count c =
    let a = c.args in
    let below : a.i < length (kept_in a.list.now) = omega (arith, c.count.ensures.1, c.if-i-count.true) in
    c.row.ensures
    ∙ (ap (λ (l : List ℕ). take 18 (drop (18 * a.i) l)) c.part.ensures ∙ sym (kept_row a.list.now a.i below))

pub returns : goal.returns
returns c =
    let a = c.args in
    let above : length (kept_in a.list.now) ≤ a.i = omega (arith, c.count.ensures.1, c.if-i-count.false) in
    c.part-2.ensures ∙ sym (get_or-eq_default (kept_in a.list.now) [] above)
