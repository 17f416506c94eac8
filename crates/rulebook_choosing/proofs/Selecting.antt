-- How a selection goes on and ends: what the search's own law says of it, as phases.
-- Assumes nothing.
use mathlib.Core.Path.{refl}
use mathlib.Core.Bool.{true}
use mathlib.Core.List.{List}
use Prim.Native.Nat.{ℕ}
use lib.Dec.{eqb, ltb}
use lib.ListN.{get_or}
use borrow.Author.Tests.{ltb-true}
use Rattle.slices.specs.Tables.{any_of}
use Rattle.slices.specs.Choice.{pick}
use Rattle.slices.proofs.Choice.{picked}
use Rattle.answer_common.specs.Named.{listed}
use Rattle.select_search.specs.Search as search
use Rattle.select_search.specs.Search.{Found, runs, over, goes, may_go_on, most_exchanges}
use Rattle.select_search.specs.Final.{chosen}
use Rattle.select_search.specs.Heard.{heard}
use Rattle.select_search.specs.declared.Step.TheVariants.{Final}
use Rattle.select_laws.specs.Follows.{Follows}
use Rattle.select_laws.proofs.Turns.{heard_follows}
use Rattle.rulebook_choosing.specs.Choosing.{Choosing, following, searched, chose}
use Rattle.rulebook_choosing.specs.Stated.{exchanges_of, GoesOn, asked, shown, ran, ended, Takes, sent, stopped}

goes_on_lem : (x : Choosing) (f : Found) → Follows (exchanges_of x) f → GoesOn x (following x f)
unfolding following
goes_on_lem x (search.asks s) h = asked s h.0 h.1
goes_on_lem x (search.shows s) h = shown s h.0 h.1
goes_on_lem x (runs list) h = ran list
goes_on_lem x (over reason) h = ended reason h

-- after any answer of the card's
pub searched_on : (x : Choosing) (a : List ℕ) → GoesOn x (searched x a)
unfolding searched
searched_on x a = goes_on_lem x (heard x.applications x.search a) (heard_follows x.applications x.search a)

-- and after any choice
pub chose_on : (x : Choosing) (p : List ℕ) → Takes x (chose x p)
unfolding chose following chosen goes may_go_on listed any_of pick
chose_on x p =
    let s = x.search in
    let place = get_or p 0 0 in
    picked (λ (f : Found). Takes x (following x f)) (eqb place 0xFF) (over 12) (goes s (Final place true)) (λ y. stopped 12 refl)
    (λ n.
    picked (λ (f : Found). Takes x (following x f)) (ltb s.stand.exchanges most_exchanges) _ (over 11)
    (λ y. sent _ refl (ltb-true s.stand.exchanges most_exchanges y))
    (λ m. stopped 11 refl))
