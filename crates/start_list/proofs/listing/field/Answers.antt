-- `listing::field` meets its contract.
-- Assumes nothing.
use mathlib.Core.Path.{◌≡◌, sym, ap, ◌∙◌}
use mathlib.Core.List.{List, []}
use Prim.Native.Nat.{ℕ, ◌*◌, ◌≤◌, ◌<◌}
use native.Mathlib.Omega.{arith}
use lib.ListN.{take, drop, get_or, get_or-eq_default}
use Rattle.start_list.specs.Rows.{rows_in}
use Rattle.start_list.specs.Listing.{count_in, fields_in}
use Rattle.start_list.proofs.InRows.{row_at, rows_length}
use Rattle.start_list.proofs.listing.field.Goals as goal

past : (n k : ℕ) (s : List ℕ) → n ≤ k → get_or (rows_in n s) k [] ≡ []
past n k s h = get_or-eq_default (rows_in n s) [] (let e = rows_length n s in omega arith)

pub returns-then-k-count : goal.returns-then-k-count
returns-then-k-count c =
    let a = c.args in
    let n = c.count.ensures.0 in
    let below : a.k < count_in a.s.now = omega (arith, n, c.if-k-count.true) in
    c.row.ensures
    ∙ (ap (λ t. take 18 (drop (18 * a.k) t)) c.fields.ensures
    ∙ sym (row_at (count_in a.s.now) a.k (fields_in a.s.now) below))

pub returns : goal.returns
returns c =
    let a = c.args in
    let n = c.count.ensures.0 in
    let above : count_in a.s.now ≤ a.k = omega (arith, n, c.if-k-count.false) in
    c.part.ensures ∙ sym (past (count_in a.s.now) a.k (fields_in a.s.now) above)
