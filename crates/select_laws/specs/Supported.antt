-- Only what the terminal lists: every application in the list, and so every name that a final SELECT sends, equals an AID of START or
-- begins with one that is partial. 001, 12.3.1; 02, R-12.
-- Assumes nothing.
use Rattle.std.specs.Prelude.{◌≡◌, true, List, [], ◌∷◌, ◌<◌, length}
use Rattle.start_list.specs.Listing.{Applications}
use Rattle.select_names.specs.Names.{supported}
use Rattle.select_list.specs.Order.{Candidate}
use Rattle.select_search.specs.Search.{Found, asks, shows, runs, over}
use Rattle.select_search.specs.declared.Step.{Step}
use Rattle.select_search.specs.declared.Step.TheVariants.{Environment, Directory, Listed, Final}

abbrev pub AllSupported : Applications → List Candidate → Type 0
AllSupported t [] = Unit {0}
AllSupported t (c ∷ l) = (supported t c.name ≡ true) × AllSupported t l

-- an AID that is selected is one of START's
abbrev pub OneOfStart : Applications → Step → Type 0
OneOfStart t Environment = Unit {0}
OneOfStart t (Directory file number) = Unit {0}
OneOfStart t (Listed aid again) = aid < length t.list
OneOfStart t (Final place taken) = Unit {0}

abbrev pub Known : Applications → Found → Type 0
Known t (asks s) = AllSupported t s.list × OneOfStart t s.stand.step
Known t (shows s) = AllSupported t s.list
Known t (runs list) = Unit {0}
Known t (over reason) = Unit {0}
