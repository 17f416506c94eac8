-- Final selection: 001, 12.4; 02, R-12.
-- Assumes nothing.
use Rattle.std.specs.Prelude.{Bool, ◌||◌, List, [], ◌∷◌, ℕ, eqb, ltb, length, true, false}
use Rattle.slices.specs.Choice.{pick}
use Rattle.slices.specs.Tests.{every, alike}
use Rattle.numbers.specs.Tables.{for_list, for_nobody}
use Rattle.dol_wanted.specs.Wanted.{fillable}
use Rattle.start_list.specs.Listing.{Applications}
use Rattle.answer_select.specs.Select.{pdol_of}
use Rattle.select_answers.specs.Files.{is_application, application_name}
use Rattle.select_list.specs.Order.{Candidate, without}
use Rattle.select_list.specs.Kept.{candidate_at}
use Rattle.select_search.specs.Search.{Search, Found, runs, over, goes, offers, has_status}
use Rattle.select_search.specs.declared.Step.TheVariants.{Final}

-- 2, 3 and 4, where the shopper can choose: a choice of his is due where two or more stand in the list, where the only one is not to be
-- selected without his confirmation, and where one that he took has fallen out; else the terminal selects the only one
unfoldable pub attended : Search → Found
attended s =
    pick (ltb 1 (length s.list) || ((candidate_at s.list 0).confirm || s.stand.fallen)) (offers s) (goes s (Final 0 false))

-- 2 and 5, where he cannot: the first in order, which wants a confirmation only where all do
unfoldable pub unattended : Search → Found
unattended s = pick (candidate_at s.list 0).confirm (over for_nobody) (goes s (Final 0 false))

-- 1: nobody is left
unfoldable pub final_selection : Applications → Search → Found
final_selection t s = pick (eqb (length s.list) 0) (over for_nobody) (pick t.choice (attended s) (unattended s))

-- the choice: a place among those shown, from 0, or 'FF' for none of them (02, R-12)
unfoldable pub chosen : Search → ℕ → Found
chosen s place = pick (eqb place 0xFF) (over for_nobody) (goes s (Final place true))

-- the application that was sent falls out; whether it was the shopper's is kept
unfoldable pub less_one : ℕ → Bool → Search → Search
less_one place taken s =
    record {
      stand = record { exchanges = s.stand.exchanges; step = s.stand.step; fallen = s.stand.fallen || taken };
      list = without place s.list;
    }

-- a successful final SELECT: '9000', no format errors, and 84 that matches the name sent exactly
unfoldable pub selected : List Candidate → ℕ → List ℕ → Bool
selected l place a =
    every (has_status 0x9000 a ∷ is_application a ∷ alike (candidate_at l place).name (application_name a) ∷ [])

-- selection is over, unless 9F38 cannot be filled (01, reason 9); any other answer removes the application, and processing resumes at 1
unfoldable pub after_final : Applications → Search → ℕ → Bool → List ℕ → Found
after_final t s place taken a =
    pick (selected s.list place a) (pick (fillable (pdol_of a)) (runs (pdol_of a)) (over for_list))
    (final_selection t (less_one place taken s))
