-- `joining::row_of` meets its contract.
-- Assumes nothing.
use mathlib.Core.Path.{refl, ap, ◌∙◌}
use mathlib.Core.List.{List}
use Prim.Native.Nat.{ℕ, ◌≤◌}
use native.Mathlib.Omega.{arith}
use lib.ListN.{length, set, replicate, length-take}
use Rattle.start_list.specs.Rows.{name_in, mark_in}
use Rattle.select_list.proofs.Made.{row_name, row_mark, row_length}
use Rattle.select_list.proofs.joining.row_of.Goals as goal

pub overflow_cast-row : goal.overflow_cast-row
overflow_cast-row c =
    let short : length c.part-kept.result.now ≤ 16 =
    let n = ap length c.part-kept.ensures ∙ length-take 16 c.args.name.now in
    omega (arith, n)
    in
    let n = short in omega arith

pub returns : goal.returns
returns c =
    let short : length c.part-kept.result.now ≤ 16 =
    let n = ap length c.part-kept.ensures ∙ length-take 16 c.args.name.now in
    omega (arith, n)
    in
    let v = c.part-kept.result.now in
    let m = c.args.mark in
    let e = ap (λ (l : List ℕ). set l 17 m) c.lay.ensures in (
      ap name_in e ∙ (row_name v m (replicate 18 0) (short) refl ∙ c.part-kept.ensures),
      ap mark_in e ∙ row_mark v m (replicate 18 0) (short) refl,
      ap length e ∙ row_length v m (replicate 18 0) (short) refl,
    )
