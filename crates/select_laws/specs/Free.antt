-- The first of a terminal's order, where the shopper cannot choose, and the first that wants no confirmation by 02's order, whom 001,
-- 12.4/5, has selected.
-- Assumes nothing.
use Rattle.std.specs.Prelude.{Bool, List, [], ◌∷◌}
use Rattle.slices.specs.Choice.{pick}
use Rattle.select_answers.specs.Directory.{Met}
use Rattle.select_list.specs.Order.{Candidate, candidate_of, placed}

-- those that want no confirmation, in their order
unfoldable pub free_of : List Candidate → List Candidate
free_of [] = []
free_of (c ∷ l) = pick c.confirm (free_of l) (c ∷ free_of l)

-- applications as they were met, one after the other, by a terminal whose shopper can choose, or cannot
unfoldable pub joined_in : Bool → List Met → List Candidate → List Candidate
joined_in choice [] l = l
joined_in choice (m ∷ ms) l = joined_in choice ms (placed (candidate_of choice m.name m.indicator) l)
