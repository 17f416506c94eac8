-- How a state keeps what it is told, as a whole new state.
-- Assumes nothing.
use Rattle.std.specs.Prelude.{List, length, ℕ}
use Rattle.slices.specs.Writing.{zeros}
use Rattle.start_fields.specs.Layout.{full_length}
use Rattle.start_choosing.specs.Start.{listing_length, alone_in}
use Rattle.select_search.specs.Search as search
use Rattle.select_search.specs.declared.Stand.{Stand}
use Rattle.answer_afl.specs.Cursor.{start}
use Rattle.answer_afl.specs.declared.cursor.Cursor.{Cursor}
use Rattle.answer_gpo.specs.Options.{profile_of, locator_of}
use Rattle.session_phase.specs.declared.Question.TheVariants.{Select}
use Rattle.session_phase.specs.declared.Speaker.TheVariants.{Terminal}
use Rattle.session_phase.specs.declared.Waiting.{Waiting}
use Rattle.session_phase.specs.declared.Waiting.TheVariants.{Searching, ForCard, ForWord}
use Rattle.session_records.specs.Runs.{fixed, no_run, kept_run}
use Rattle.session_records.specs.Slots.{empty_store}
use Rattle.session_records.specs.declared.Store.{Store}
use Rattle.session_state.specs.declared.State.{State}

unfoldable pub with_told : Store → State → State
with_told told s =
    record {
      waiting = s.waiting;
      start = s.start;
      size = s.size;
      tvr = s.tvr;
      tsi = s.tsi;
      profile = s.profile;
      locator = s.locator;
      cursor = s.cursor;
      told = told;
      listing = s.listing;
      stand = s.stand;
    }

-- the AIP and the AFL of an answer to GPO, with the place of the first record
unfoldable pub with_options : List ℕ → State → State
with_options a s =
    record {
      waiting = s.waiting;
      start = s.start;
      size = s.size;
      tvr = s.tvr;
      tsi = s.tsi;
      profile = fixed 2 (profile_of a);
      locator = kept_run (locator_of a);
      cursor = start;
      told = s.told;
      listing = s.listing;
      stand = s.stand;
    }

-- what is waited for, TVR, TSI, and the place among the records
unfoldable pub changed : Waiting → List ℕ → List ℕ → Cursor → State → State
changed waiting tvr tsi cursor s =
    record {
      waiting = waiting;
      start = s.start;
      size = s.size;
      tvr = tvr;
      tsi = tsi;
      profile = s.profile;
      locator = s.locator;
      cursor = cursor;
      told = s.told;
      listing = s.listing;
      stand = s.stand;
    }

-- where the search for an application stands
unfoldable pub with_stand : Stand → State → State
with_stand stand s =
    record {
      waiting = s.waiting;
      start = s.start;
      size = s.size;
      tvr = s.tvr;
      tsi = s.tsi;
      profile = s.profile;
      locator = s.locator;
      cursor = s.cursor;
      told = s.told;
      listing = s.listing;
      stand = stand;
    }

-- a state in which nothing is known but START's bytes, how many of them count, and START with a list where it has one
unfoldable pub state_at : Waiting → List ℕ → ℕ → List ℕ → State
state_at waiting bytes size listing =
    record {
      waiting = waiting;
      start = bytes;
      size = size;
      tvr = zeros 5;
      tsi = zeros 2;
      profile = zeros 2;
      locator = no_run;
      cursor = start;
      told = empty_store;
      listing = listing;
      stand = (search.begun).stand;
    }

-- before START
unfoldable pub fresh : State
fresh = state_at (ForWord Terminal) (zeros full_length) 0 (zeros listing_length)

-- when START was taken
unfoldable pub begun : List ℕ → State
begun b = state_at (ForCard Select) (fixed full_length b) (length b) (zeros listing_length)

-- when a START with a list was taken (02, R-12): what it holds beside the list is kept as a START of 77 bytes, and the search begins
unfoldable pub begun_listing : List ℕ → State
begun_listing p = state_at Searching (alone_in p) full_length (fixed listing_length p)
