-- How the code goes on by what a search found. Nothing here need be believed.
-- Assumes nothing.
use Rattle.std.specs.Prelude.{List, ℕ, ◌%◌}
use Rattle.numbers.specs.Tables.{terminated}
use Rattle.start_list.specs.Listing.{applications_in}
use Rattle.select_search.specs.Search as search
use Rattle.select_search.specs.Search.{Found, runs, over}
use Rattle.rulebook.specs.Phase.{optioning, asks, decides}
use Rattle.session_state.specs.Reading.{early}
use Rattle.session_state.specs.declared.State.{State}
use Rattle.session_moves.specs.Moves.{Moved, moved}
use Rattle.session_choosing.specs.Moves.{asking, offering}

-- of a reason a state keeps a byte
unfoldable pub found : Found → State → List ℕ → Moved
found (search.asks z) s buf = asking (applications_in s.listing) z s buf
found (search.shows z) s buf = offering z s buf
found (runs list) s buf = moved (asks (optioning (early s) list)) s buf
found (over reason) s buf = moved (decides terminated (reason % 256) (early s)) s buf
