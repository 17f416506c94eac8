-- Which application runs: the list 9F38 that GET PROCESSING OPTIONS is filled by is that of the answer just heard. 001, 12.4; 02, R-12.
-- Assumes nothing.
use Rattle.std.specs.Prelude.{◌≡◌, List, ℕ}
use Rattle.answer_select.specs.Select.{pdol_of}
use Rattle.select_search.specs.Search.{Found, asks, shows, runs, over}

abbrev pub RunsBy : List ℕ → Found → Type 0
RunsBy a (asks s) = Unit {0}
RunsBy a (shows s) = Unit {0}
RunsBy a (runs list) = list ≡ pdol_of a
RunsBy a (over reason) = Unit {0}
