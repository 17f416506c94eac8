-- How one joins, in places: the steps that the code takes. Nothing here need be believed.
-- Assumes nothing.
use Rattle.std.specs.Prelude.{List, [], ◌∷◌, ℕ, suc, ◌+◌, ◌/◌, ◌%◌, leb, Bool}
use Rattle.slices.specs.Choice.{pick}
use Rattle.select_list.specs.Order.{Candidate, confirms, standing_of}

-- how many stand before the first that stands behind it
unfoldable pub place_for : ℕ → List Candidate → ℕ
place_for s [] = 0
place_for s (d ∷ l) = pick (leb d.standing s) (suc (place_for s l)) 0

-- a row's last byte
unfoldable pub mark_of : Bool → ℕ → ℕ
mark_of choice b = standing_of choice b + pick (confirms b) 128 0

-- two bytes of count
unfoldable pub counted : ℕ → List ℕ
counted n = n / 256 ∷ n % 256 ∷ []
