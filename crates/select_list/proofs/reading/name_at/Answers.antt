-- `reading::name_at` meets its contract.
-- Assumes nothing.
use mathlib.Core.Path.{sym, ap, ◌∙◌}
use Rattle.start_list.specs.Rows.{name_in}
use Rattle.select_list.specs.Order.{Candidate}
use Rattle.select_list.specs.Kept.{candidate_in}
use Rattle.select_list.proofs.Keeping.{at_row}
use Rattle.select_list.proofs.reading.name_at.Goals as goal

pub returns : goal.returns
unfolding candidate_in
returns c =
    let a = c.args in
    c.name.ensures ∙ (ap name_in c.row_at.ensures ∙ sym (ap (λ (x : Candidate). x.name) (at_row a.list.now a.i)))
