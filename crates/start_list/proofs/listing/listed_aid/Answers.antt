-- `listing::listed_aid` meets its contract: the name in the row at that place.
-- Assumes nothing.
use mathlib.Core.Path.{sym, ap, ◌∙◌}
use Rattle.start_list.specs.Rows.{name_in}
use Rattle.start_list.specs.Listing.{Listed, listed_of}
use Rattle.start_list.proofs.Listed.{listed_row}
use Rattle.start_list.proofs.listing.listed_aid.Goals as goal

pub returns : goal.returns
unfolding listed_of
returns c =
    let a = c.args in
    c.name.ensures ∙ (ap name_in c.field.ensures ∙ sym (ap (λ (l : Listed). l.aid) (listed_row a.s.now a.k)))
