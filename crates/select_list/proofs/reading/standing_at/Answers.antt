-- `reading::standing_at` meets its contract.
-- Assumes nothing.
use mathlib.Core.Path.{sym, ap, ◌∙◌}
use Prim.Native.Nat.{ℕ, ◌%◌}
use native.Mathlib.Omega.{arith}
use Rattle.start_list.specs.Rows.{mark_in}
use Rattle.select_list.specs.Order.{Candidate}
use Rattle.select_list.specs.Kept.{candidate_in}
use Rattle.select_list.proofs.Keeping.{at_row}
use Rattle.select_list.proofs.reading.standing_at.Goals as goal

pub returns : goal.returns
unfolding candidate_in
returns c =
    let a = c.args in (
      ap (λ (n : ℕ). n % 128) (c.mark.ensures.0 ∙ ap mark_in c.row_at.ensures)
          ∙ sym (ap (λ (x : Candidate). x.standing) (at_row a.list.now a.i)),
      omega arith,
    )
