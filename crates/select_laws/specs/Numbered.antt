-- The records of the directory are read one after the other from 1: 001, 12.3.2/2. The environment is selected in the first exchange, so
-- record n is read in exchange n + 1, and with a hundred exchanges no number is above 99.
-- Assumes nothing.
use Rattle.std.specs.Prelude.{◌≡◌, ◌+◌}
use Rattle.select_search.specs.Search.{Found, asks, shows, runs, over}
use Rattle.select_search.specs.declared.Stand.{Stand}
use Rattle.select_search.specs.declared.Step.{Step}
use Rattle.select_search.specs.declared.Step.TheVariants.{Environment, Directory, Listed, Final}

abbrev pub NumberedAt : Stand → Step → Type 0
NumberedAt stand Environment = stand.exchanges ≡ 1
NumberedAt stand (Directory file number) = stand.exchanges ≡ number + 1
NumberedAt stand (Listed aid again) = Unit {0}
NumberedAt stand (Final place taken) = Unit {0}

abbrev pub Numbered : Found → Type 0
Numbered (asks s) = NumberedAt s.stand s.stand.step
Numbered (shows s) = Unit {0}
Numbered (runs list) = Unit {0}
Numbered (over reason) = Unit {0}
