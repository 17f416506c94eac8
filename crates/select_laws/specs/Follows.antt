-- What can follow an answer or a choice of a selection, and a hundred exchanges. 02, R-12.
-- Assumes nothing.
use Rattle.std.specs.Prelude.{◌≡◌, true, List, [], ◌∷◌, ℕ, ◌+◌, ◌<◌}
use Rattle.numbers.specs.Tables.{for_size, for_list, for_exchanges, for_nobody}
use Rattle.answer_common.specs.Named.{listed}
use Rattle.select_search.specs.Search.{Found, asks, shows, runs, over, most_exchanges}

-- the reasons that a selection can end with
abbrev pub reasons : List ℕ
reasons = for_size ∷ for_list ∷ for_exchanges ∷ for_nobody ∷ []

-- behind e exchanges: one more, or a choice before it, while fewer than a hundred were made; GET PROCESSING OPTIONS; or the end
abbrev pub Follows : ℕ → Found → Type 0
Follows e (asks s) = (s.stand.exchanges ≡ e + 1) × (e < most_exchanges)
Follows e (shows s) = (s.stand.exchanges ≡ e) × (e < most_exchanges)
Follows e (runs list) = Unit {0}
Follows e (over reason) = listed reason reasons ≡ true
