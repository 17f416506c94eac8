-- `valid::valid_fields` meets its contract. The loop's invariant: the fields that are left decide as all of them do.
-- Assumes nothing.
use mathlib.Core.Path.{◌≡◌, sym, ap, ◌∙◌}
use mathlib.Core.Bool.{Bool}
use mathlib.Core.List.{List, []}
use Prim.Native.Nat.{ℕ, ◌*◌, ◌<◌}
use native.Mathlib.Omega.{arith}
use lib.ListN.{take, drop, get_or}
use Rattle.start_list.specs.Listing.{count_in, fields_in}
use Rattle.start_list.specs.Valid.{valid_field}
use Rattle.start_list.proofs.InRows.{rows_length, row_at}
use Rattle.start_list.proofs.Lists.{all_on, all_not, all_past}
use Rattle.start_list.proofs.valid.valid_fields.Invariants.{used}
use Rattle.start_list.proofs.valid.valid_fields.Goals as goal

-- what the code finds of a field that is used is what holds of the row at its place
found : (s fields row : List ℕ) (k : ℕ) (r : Bool) → k < count_in s → fields ≡ fields_in s → row ≡ take 18 (drop (18 * k) fields)
    → r ≡ valid_field row → r ≡ valid_field (get_or (used s) k [])
found s fields row k r h e f g =
    g ∙ ap valid_field (f ∙ (ap (λ (t : List ℕ). take 18 (drop (18 * k) t)) e ∙ sym (row_at (count_in s) k (fields_in s) h)))

pub loop-k-preserved : goal.loop-k-preserved
loop-k-preserved c =
    let s = c.args.s.now in
    let l = c.loop-k in
    let size = rows_length (count_in s) (fields_in s) in
    let below : l.k < count_in s = omega arith in
    let e = found s _ _ l.k _ below c.fields.ensures c.row.ensures c.valid_field.ensures in
    sym (all_on valid_field (used s) [] l.k (omega arith) (sym e ∙ c.if-not-valid_field.false)) ∙ l.invariant

pub returns-then-not-valid_field : goal.returns-then-not-valid_field
returns-then-not-valid_field c =
    let s = c.args.s.now in
    let l = c.loop-k in
    let size = rows_length (count_in s) (fields_in s) in
    let below : l.k < count_in s = omega arith in
    let e = found s _ _ l.k _ below c.fields.ensures c.row.ensures c.valid_field.ensures in
    sym (all_not valid_field (used s) [] l.k (omega arith) (sym e ∙ c.if-not-valid_field.true)) ∙ l.invariant

pub returns : goal.returns
returns c =
    let s = c.args.s.now in
    let l = c.loop-k in
    let size = rows_length (count_in s) (fields_in s) in
    sym (all_past valid_field (used s) [] l.k (omega arith)) ∙ l.invariant
