-- `listing::is_partial` meets its contract: the byte behind the room in the row at that place.
-- Assumes nothing.
use mathlib.Core.Path.{sym, ap, ◌∙◌}
use Prim.Native.Nat.{ℕ}
use lib.Dec.{eqb}
use Rattle.start_list.specs.Rows.{mark_in}
use Rattle.start_list.specs.Listing.{Listed, listed_of}
use Rattle.start_list.proofs.Listed.{listed_row}
use Rattle.start_list.proofs.listing.is_partial.Goals as goal

pub returns : goal.returns
unfolding listed_of
returns c =
    let a = c.args in
    ap (λ (n : ℕ). eqb n 1) (c.mark.ensures.0 ∙ ap mark_in c.field.ensures)
    ∙ sym (ap (λ (l : Listed). l.partial) (listed_row a.s.now a.k))
