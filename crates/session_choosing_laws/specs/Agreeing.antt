-- What it means that a state, with its list of applications, stands where the amended rules do. At a phase of today's rules it is what it was;
-- in a selection the state knows where the search stands, and its list as far as it can still matter. 02, R-12.
-- Assumes nothing.
use Rattle.std.specs.Prelude.{◌≡◌, true, List, ℕ, ◌≤◌, take}
use Rattle.start_list.specs.Listing.{applications_in}
use Rattle.select_list.specs.Order.{Candidate, shown_of}
use Rattle.select_search.specs.Search.{most_exchanges}
use Rattle.select_laws.specs.Cut.{room_now, room_next, AmongShown}
use Rattle.sessions.specs.Rules.{asks, hears, decides}
use Rattle.rulebook.specs.Phase.{tvr_of, tsi_of}
use Rattle.rulebook.specs.Later.{AskedLater, HeardLater}
use Rattle.rulebook_choosing.specs.Choosing.{Choosing, ChoosingPhase}
use Rattle.rulebook_choosing.specs.Machine.{Machine, at, owes, done}
use Rattle.session_phase.specs.Waiting.{is_decided}
use Rattle.session_phase.specs.declared.Speaker.{Speaker}
use Rattle.session_phase.specs.declared.Speaker.TheVariants.{Shopper}
use Rattle.session_phase.specs.declared.Waiting.{Waiting}
use Rattle.session_phase.specs.declared.Waiting.TheVariants.{Searching, ForCard, ForWord, Decided}
use Rattle.session_state.specs.Reading.{early}
use Rattle.session_state.specs.declared.State.{State}
use Rattle.session_moves.specs.Moves.{question_of, speaker_of}
use Rattle.session_laws.specs.Agreeing as Today

-- whose word is due, and what a state keeps of a phase
unfoldable pub speaker_later : HeardLater Choosing → Speaker
speaker_later (HeardLater.was h) = speaker_of h
speaker_later (HeardLater.new x) = Shopper (shown_of x.search.list)

unfoldable pub kept_later : ChoosingPhase → Waiting
kept_later (asks (AskedLater.was w)) = ForCard (question_of w)
kept_later (asks (AskedLater.new x)) = Searching
kept_later (hears h) = ForWord (speaker_later h)
kept_later (decides outcome reason z) = Decided outcome reason

-- TVR and TSI as they stand in a phase: a selection leaves them as START did
unfoldable pub tvr_later : ChoosingPhase → List ℕ
tvr_later (asks (AskedLater.was w)) = tvr_of (asks w)
tvr_later (asks (AskedLater.new x)) = x.situation.tvr
tvr_later (hears (HeardLater.was h)) = tvr_of (hears h)
tvr_later (hears (HeardLater.new x)) = x.situation.tvr
tvr_later (decides outcome reason z) = z.tvr

unfoldable pub tsi_later : ChoosingPhase → List ℕ
tsi_later (asks (AskedLater.was w)) = tsi_of (asks w)
tsi_later (asks (AskedLater.new x)) = x.situation.tsi
tsi_later (hears (HeardLater.was h)) = tsi_of (hears h)
tsi_later (hears (HeardLater.new x)) = x.situation.tsi
tsi_later (decides outcome reason z) = z.tsi

-- a selection that is the state's own, its list alike as far as n
pub record Alike (n : ℕ) (s : State) (l : List Candidate) (x : Choosing) : Type 0 where
  pub situation : early s ≡ x.situation
  pub applications : applications_in s.listing ≡ x.applications
  pub stand : s.stand ≡ x.search.stand
  pub list : take n l ≡ take n x.search.list
  pub few : x.search.stand.exchanges ≤ most_exchanges

-- what a phase knows can be read off the state and the list
unfoldable pub Knows : State → List Candidate → ChoosingPhase → Type 0
Knows s l (asks (AskedLater.was w)) = Today.Knows s (asks w)
Knows s l (asks (AskedLater.new x)) = Alike (room_now x.search) s l x × AmongShown x.search.stand.step
Knows s l (hears (HeardLater.was h)) = Today.Knows s (hears h)
Knows s l (hears (HeardLater.new x)) = Alike (room_next x.search) s l x
Knows s l (decides outcome reason z) = Unit {0}

pub record StandsAt (s : State) (l : List Candidate) (p : ChoosingPhase) : Type 0 where
  pub waits : s.waiting ≡ kept_later p
  pub tvr : s.tvr ≡ tvr_later p
  pub tsi : s.tsi ≡ tsi_later p
  pub knows : Knows s l p

-- the same of the machine that reads entries
unfoldable pub Agrees : State → List Candidate → Machine → Type 0
Agrees s l (at p) = StandsAt s l p
Agrees s l (owes w) = StandsAt s l (asks w)
Agrees s l done = is_decided s.waiting ≡ true
