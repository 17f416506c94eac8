-- `listing::fields` meets its contract.
-- Assumes nothing.
use Rattle.start_list.specs.Listing.{fields_in}
use Rattle.start_list.proofs.listing.fields.Goals as goal

pub returns : goal.returns
unfolding fields_in
returns c = c.part.ensures
