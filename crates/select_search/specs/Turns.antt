-- What the code hands back and keeps of what is found. The list of applications stands in lent bytes, which have room for 355; the list
-- 9F38 stands in the answer that was heard.
-- Assumes nothing.
use Rattle.std.specs.Prelude.{Bool, true, false, List, [], ℕ, take}
use Rattle.answer_select.specs.Select.{pdol_of}
use Rattle.select_list.specs.Order.{Candidate}
use Rattle.select_list.specs.Kept.{most_kept}
use Rattle.select_search.specs.Search.{Search, Found, asks, shows, runs, over, cut_to}
use Rattle.select_search.specs.declared.Stand.{Stand}
use Rattle.select_search.specs.declared.Turn.{Turn}
use Rattle.select_search.specs.declared.Turn.TheVariants.{Asks, Shows, Runs, Over}

abbrev pub search_of : Stand → List Candidate → Search
search_of stand l = record { stand = stand; list = l }

unfoldable pub turn_of : Found → Turn
turn_of (asks s) = Asks s.stand
turn_of (shows s) = Shows s.stand
turn_of (runs list) = Runs
turn_of (over reason) = Over reason

-- the list that is left: as much of it as there is room for, and nobody once the selection is over
unfoldable pub list_left : Found → List Candidate
list_left (asks s) = take most_kept s.list
list_left (shows s) = take most_kept s.list
list_left (runs list) = []
list_left (over reason) = []

-- a turn with the list beside it and the answer before it, read as what was found
unfoldable pub turned : Turn → List Candidate → List ℕ → Found
turned (Asks stand) l a = asks (search_of stand l)
turned (Shows stand) l a = shows (search_of stand l)
turned Runs l a = runs (pdol_of a)
turned (Over reason) l a = over reason

-- what was found, its list as far as there is room for it
unfoldable pub kept : Found → Found
kept (asks s) = asks (cut_to most_kept s)
kept (shows s) = shows (cut_to most_kept s)
kept (runs list) = runs list
kept (over reason) = over reason

unfoldable pub goes_on : Turn → Bool
goes_on (Asks stand) = true
goes_on (Shows stand) = true
goes_on Runs = false
goes_on (Over reason) = false
