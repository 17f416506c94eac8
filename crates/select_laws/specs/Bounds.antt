-- How far the numbers of a search go: an application that is sent is one of those shown, and the reason for an end is a byte, as DECISION has
-- it (01, "The tape"; 02, R-12).
-- Assumes nothing.
use Rattle.std.specs.Prelude.{◌<◌}
use Rattle.select_search.specs.Search.{Found, asks, shows, runs, over}
use Rattle.select_laws.specs.Cut.{AmongShown}

abbrev pub Bounded : Found → Type 0
Bounded (asks s) = AmongShown s.stand.step
Bounded (shows s) = Unit {0}
Bounded (runs list) = Unit {0}
Bounded (over reason) = reason < 256
