-- A card that gives the same answer to every command: '6A82', which says that it has no such file. 02, R-12.
-- Assumes nothing.
use Rattle.std.specs.Prelude.{List, [], ◌∷◌, ℕ, zero, suc}
use Rattle.start_list.specs.Listing.{Applications}
use Rattle.select_search.specs.Search.{Found, asks, shows, runs, over}
use Rattle.select_search.specs.Heard.{heard}

abbrev pub missing : List ℕ
missing = 0x6A ∷ 0x82 ∷ []

-- the answer where a command is asked; anything else stays
unfoldable pub answered : Applications → List ℕ → Found → Found
answered t a (asks s) = heard t s a
answered t a (shows s) = shows s
answered t a (runs list) = runs list
answered t a (over reason) = over reason

unfoldable pub repeated : ℕ → Applications → List ℕ → Found → Found
repeated zero t a f = f
repeated (suc n) t a f = repeated n t a (answered t a f)
