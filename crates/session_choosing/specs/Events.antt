-- An accepted event under the rules with choosing the application: the amended transition, read off the state and the list of applications,
-- and what goes on from there. 02, R-12.
-- Assumes nothing.
use Rattle.std.specs.Prelude.{List, [], ℕ}
use Rattle.slices.specs.Choice.{pick}
use Rattle.start_choosing.specs.Start.{is_listing}
use Rattle.start_list.specs.Listing.{applications_in}
use Rattle.select_list.specs.Order.{Candidate}
use Rattle.select_search.specs.Turns.{search_of}
use Rattle.sessions.specs.Rules.{asks}
use Rattle.rulebook.specs.Later.{AskedLater}
use Rattle.rulebook_choosing.specs.Choosing.{Choosing, searched, chose, listed}
use Rattle.session_phase.specs.declared.Speaker.{Speaker}
use Rattle.session_phase.specs.declared.Speaker.TheVariants.{Terminal, Says, Shopper}
use Rattle.session_phase.specs.declared.Waiting.{Waiting}
use Rattle.session_phase.specs.declared.Waiting.TheVariants.{Searching, ForCard, ForWord, Decided, Closed}
use Rattle.session_state.specs.Reading.{early}
use Rattle.session_state.specs.Keeping.{begun_listing}
use Rattle.session_state.specs.declared.State.{State}
use Rattle.session_events.specs.Events.{step}
use Rattle.session_choosing.specs.Moves.{MovedLater, beside, moved_later}

-- the selection that a state and its list stand for
unfoldable pub choosing_in : State → List Candidate → Choosing
choosing_in s l =
    record { situation = early s; applications = applications_in s.listing; search = search_of s.stand l }

-- with a START of 207 bytes the search begins; with any other it is today's
unfoldable pub begins : List ℕ → List ℕ → MovedLater
begins p buf = moved_later (asks (AskedLater.new (listed p))) (begun_listing p) [] buf

unfoldable pub start_later : State → List Candidate → List ℕ → List ℕ → MovedLater
start_later s l p buf = pick (is_listing p) (begins p buf) (beside l (step s p buf))

-- somebody else's word
unfoldable pub word_later : Speaker → State → List Candidate → List ℕ → List ℕ → MovedLater
word_later Terminal s l p buf = start_later s l p buf
word_later (Says word count) s l p buf = beside l (step s p buf)
word_later (Shopper shown) s l p buf = moved_later (chose (choosing_in s l) p) s l buf

-- by what the state waits for; nobody is left in the list once a selection is over
unfoldable pub later_at : Waiting → State → List Candidate → List ℕ → List ℕ → MovedLater
later_at Searching s l p buf = moved_later (searched (choosing_in s l) p) s [] buf
later_at (ForCard question) s l p buf = beside l (step s p buf)
later_at (ForWord speaker) s l p buf = word_later speaker s l p buf
later_at (Decided outcome reason) s l p buf = beside l (step s p buf)
later_at Closed s l p buf = beside l (step s p buf)

unfoldable pub step_later : State → List Candidate → List ℕ → List ℕ → MovedLater
step_later s l p buf = later_at s.waiting s l p buf
