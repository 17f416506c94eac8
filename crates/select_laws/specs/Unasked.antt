-- Nobody without the shopper's word: 001, 12.4; 02, R-12. What an answer leads to, the terminal does by itself: an application that it
-- takes stands in the list, wants no confirmation, and none that the shopper took has fallen out before; a choice is due only where the shopper can
-- choose. An application that wants one is so sent right behind a choice, or not at all.
-- Assumes nothing.
use Rattle.std.specs.Prelude.{◌≡◌, true, false, ◌<◌, length}
use Rattle.start_list.specs.Listing.{Applications}
use Rattle.select_list.specs.Kept.{candidate_at}
use Rattle.select_search.specs.Search.{Search, Found, asks, shows, runs, over}
use Rattle.select_search.specs.declared.Step.{Step}
use Rattle.select_search.specs.declared.Step.TheVariants.{Environment, Directory, Listed, Final}

abbrev pub TakenAt : Applications → Search → Step → Type 0
TakenAt t s Environment = Unit {0}
TakenAt t s (Directory file number) = Unit {0}
TakenAt t s (Listed aid again) = Unit {0}
TakenAt t s (Final place taken) =
    (place < length s.list) × (taken ≡ false) × ((candidate_at s.list place).confirm ≡ false)
    × (t.choice ≡ true → s.stand.fallen ≡ false)

abbrev pub Unasked : Applications → Found → Type 0
Unasked t (asks s) = TakenAt t s s.stand.step
Unasked t (shows s) = t.choice ≡ true
Unasked t (runs list) = Unit {0}
Unasked t (over reason) = Unit {0}
