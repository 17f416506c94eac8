-- Choosing the application, as questions and words that come before GET PROCESSING OPTIONS: 02, R-12; 001, 12.3 and 12.4. From there on the
-- rules are today's.
-- Assumes nothing.
use Rattle.std.specs.Prelude.{Bool, List, ℕ, get_or}
use Rattle.numbers.specs.Tables.{choice, terminated}
use Rattle.start_fields.specs.Reading.{reading_of}
use Rattle.start_list.specs.Listing.{Applications, applications_in}
use Rattle.select_list.specs.Order.{shown_of}
use Rattle.select_search.specs.Search as search
use Rattle.select_search.specs.Search.{Search, Found, runs, over}
use Rattle.select_search.specs.Final.{chosen}
use Rattle.select_search.specs.Heard.{heard}
use Rattle.words.specs.Choice.{is_choice}
use Rattle.sessions.specs.Rules.{asks, hears, decides}
use Rattle.rulebook.specs.Situation.{Situation, begun}
use Rattle.rulebook.specs.Phase.{optioning}
use Rattle.rulebook.specs.Later.{AskedLater, HeardLater, PhaseLater, Added}
use Rattle.start_choosing.specs.Start.{is_listing, valid_listing, with_first_alone}

-- a selection under way: what is known, which stays as it is until GPO; the applications of START; where the search stands. A command of
-- the search is due, or the shopper's choice
pub record Choosing : Type 0 where
  pub situation : Situation
  pub applications : Applications
  pub search : Search

abbrev pub ChoosingPhase : Type 0
ChoosingPhase = PhaseLater Choosing Choosing

-- the same selection, with its search further on
unfoldable pub further : Search → Choosing → Choosing
further s x = record { situation = x.situation; applications = x.applications; search = s }

-- what follows an answer or a choice: another exchange; a choice; GET PROCESSING OPTIONS with the list 9F38 of the application that runs,
-- as today's rules have it; or the end
unfoldable pub following : Choosing → Found → ChoosingPhase
following x (search.asks s) = asks (AskedLater.new (further s x))
following x (search.shows s) = hears (HeardLater.new (further s x))
following x (runs list) = asks (AskedLater.was (optioning x.situation list))
following x (over reason) = decides terminated reason x.situation

-- after the card's answer to a command of the search
unfoldable pub searched : Choosing → List ℕ → ChoosingPhase
searched x a = following x (heard x.applications x.search a)

-- the shopper's choice is among those shown
unfoldable pub may_choose : Choosing → List ℕ → Bool
may_choose x p = is_choice (shown_of x.search.list) p

-- after the choice
unfoldable pub chose : Choosing → List ℕ → ChoosingPhase
chose x p = following x (chosen x.search (get_or p 0 0))

-- after a START with a list: the search begins
unfoldable pub listed : List ℕ → Choosing
listed p = record { situation = begun (reading_of (with_first_alone p)); applications = applications_in p; search = search.begun }

-- what choosing adds to today's rules
abbrev pub choosing : Added Choosing Choosing
choosing =
    record {
      command_of = λ x. search.asked x.applications x.search;
      turn = searched;
      due_kind = λ x. choice;
      allowed = may_choose;
      after = chose;
      own_start = is_listing;
      valid_start = valid_listing;
      started = λ p. asks (AskedLater.new (listed p));
    }
