-- What a state keeps of a search: the first of its list, as many as can still matter. Where an exchange is due, or a choice before it, 255
-- can be shown, and one more can move up for each exchange that is left: 355 less the number of that exchange.
-- Assumes nothing.
use Rattle.std.specs.Prelude.{ℕ, ◌+◌, ◌-◌, ◌<◌}
use Rattle.select_list.specs.Order.{most_shown}
use Rattle.select_list.specs.Kept.{most_kept}
use Rattle.select_search.specs.Search.{Search, Found, asks, shows, runs, over, cut_to}
use Rattle.select_search.specs.declared.Step.{Step}
use Rattle.select_search.specs.declared.Step.TheVariants.{Environment, Directory, Listed, Final}

-- the room in the exchange that is due, and in the one after it
abbrev pub room_now : Search → ℕ
room_now s = most_kept - s.stand.exchanges

abbrev pub room_next : Search → ℕ
room_next s = most_kept - (s.stand.exchanges + 1)

unfoldable pub cut : Found → Found
cut (asks s) = asks (cut_to (room_now s) s)
cut (shows s) = shows (cut_to (room_next s) s)
cut (runs list) = runs list
cut (over reason) = over reason

-- an application that was sent is one of those shown
abbrev pub AmongShown : Step → Type 0
AmongShown Environment = Unit {0}
AmongShown (Directory file number) = Unit {0}
AmongShown (Listed aid again) = Unit {0}
AmongShown (Final place taken) = place < most_shown
