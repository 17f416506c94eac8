-- Using a list of AIDs: 001, 12.3.3.
-- Assumes nothing.
use Rattle.std.specs.Prelude.{Bool, true, false, not, ◌&&◌, ◌||◌, List, ℕ, ◌+◌, eqb, ltb, length}
use Rattle.slices.specs.Choice.{pick}
use Rattle.slices.specs.Tests.{alike}
use Rattle.numbers.specs.Tables.{for_nobody}
use Rattle.start_list.specs.Listing.{Applications, listed_at}
use Rattle.select_names.specs.Names.{begins_with}
use Rattle.select_answers.specs.Files.{is_application, application_name, application_indicator}
use Rattle.select_list.specs.Order.{candidate_of, placed}
use Rattle.select_search.specs.Search.{Search, Found, over, goes, with_list, has_status}
use Rattle.select_search.specs.Final.{final_selection}
use Rattle.select_search.specs.declared.Step.TheVariants.{Listed}

-- 1: the first AID, with whom the list has by then
unfoldable pub from_first : Search → Found
from_first s = goes s (Listed 0 false)

-- 5: the next AID; behind the last one the list is complete
unfoldable pub next_aid : Applications → Search → ℕ → Found
next_aid t s k = pick (ltb (k + 1) (length t.list)) (goes s (Listed (k + 1) false)) (final_selection t s)

-- 4 and 6: one that is not blocked ('9000') joins, under the name that the card gave
unfoldable pub joined_by : Applications → List ℕ → Search → Search
joined_by t a s =
    pick (has_status 0x9000 a)
    (with_list (placed (candidate_of t.choice (application_name a) (application_indicator a)) s.list) s)
    s

-- 3, 4, 6 and 7, the card's name compared with the AID: identical, and the next AID comes; longer, and where the AID is partial the next
-- occurrence is asked for; else it is not added
unfoldable pub compared : Applications → Search → ℕ → List ℕ → Found
compared t s k a =
    pick (alike (listed_at t k).aid (application_name a)) (next_aid t (joined_by t a s) k)
    (pick (begins_with (listed_at t k).aid (application_name a) && (listed_at t k).partial) (goes (joined_by t a s) (Listed k true))
    (next_aid t s k))

-- 2: '6A81' to the first command of all ends the session. 3: '9000' and '6283' with a good FCI are compared; anything else leads to 5
unfoldable pub after_listed : Applications → Search → ℕ → Bool → List ℕ → Found
after_listed t s k again a =
    pick (eqb k 0 && (not again && has_status 0x6A81 a)) (over for_nobody)
    (pick ((has_status 0x9000 a || has_status 0x6283 a) && is_application a) (compared t s k a) (next_aid t s k))
