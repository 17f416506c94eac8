-- What it means that a list is in order, equals as they joined. 02, R-12.
-- Assumes nothing.
use Rattle.std.specs.Prelude.{List, [], ◌∷◌, ℕ, ◌≤◌, eqb}
use Rattle.slices.specs.Choice.{pick}
use Rattle.select_list.specs.Order.{Candidate}

-- none of them stands before s
abbrev pub Behind : ℕ → List Candidate → Type 0
Behind s [] = Unit {0}
Behind s (d ∷ l) = (s ≤ d.standing) × Behind s l

abbrev pub Ordered : List Candidate → Type 0
Ordered [] = Unit {0}
Ordered (d ∷ l) = Behind d.standing l × Ordered l

-- those that stand at s, as they follow one another
unfoldable pub those : ℕ → List Candidate → List Candidate
those s [] = []
those s (d ∷ l) = pick (eqb d.standing s) (d ∷ those s l) (those s l)
