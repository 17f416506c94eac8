-- `listing::listed_count` meets its contract: as many AIDs as rows.
-- Assumes nothing.
use mathlib.Core.Path.{◌≡◌, sym, ◌∙◌}
use mathlib.Core.List.{List}
use Prim.Native.Nat.{ℕ}
use lib.ListN.{length, length-map}
use Rattle.start_list.specs.Rows.{rows_in}
use Rattle.start_list.specs.Listing.{count_in, fields_in, listed_of, applications_in}
use Rattle.start_list.proofs.InRows.{rows_length}
use Rattle.start_list.proofs.listing.listed_count.Goals as goal

as_many : (s : List ℕ) → length (applications_in s).list ≡ count_in s
unfolding applications_in
as_many s = length-map (rows_in (count_in s) (fields_in s)) listed_of ∙ rows_length (count_in s) (fields_in s)

pub returns : goal.returns
returns c = (c.count.ensures.0 ∙ sym (as_many c.args.s.now), c.count.ensures.1)
