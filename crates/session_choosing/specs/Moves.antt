-- Where a session goes on under the rules with choosing the application (02, R-12): at a phase of today's rules as `moved` has it; at one of a
-- selection the state waits for the card or for the shopper, and keeps where the search stands. The list of applications stands beside the
-- state, in bytes that have room for 355.
-- Assumes nothing.
use Rattle.std.specs.Prelude.{List, ℕ, length, take}
use Rattle.slices.specs.Writing.{laid}
use Rattle.numbers.specs.Tables.{choice}
use Rattle.commands.specs.Commands.{size_in}
use Rattle.start_list.specs.Listing.{Applications}
use Rattle.select_list.specs.Order.{Candidate, shown_of}
use Rattle.select_list.specs.Kept.{most_kept}
use Rattle.select_search.specs.Search.{Search, asked, cut_to}
use Rattle.select_search.specs.declared.Stand.{Stand}
use Rattle.sessions.specs.Rules.{asks, hears, decides}
use Rattle.rulebook.specs.Later.{AskedLater, HeardLater}
use Rattle.rulebook_choosing.specs.Choosing.{ChoosingPhase}
use Rattle.session_phase.specs.declared.Speaker.TheVariants.{Shopper}
use Rattle.session_phase.specs.declared.Waiting.{Waiting}
use Rattle.session_phase.specs.declared.Waiting.TheVariants.{Searching, ForWord}
use Rattle.session_phase.specs.declared.Reply.{Reply}
use Rattle.session_phase.specs.declared.Reply.TheVariants.{Command, Due}
use Rattle.session_state.specs.Keeping.{with_stand, changed}
use Rattle.session_state.specs.declared.State.{State}
use Rattle.session_moves.specs.Moves.{Moved, moved}
use Rattle.session_moves.specs.declared.Step.{Step}

-- what a step leaves behind, with the list of applications as it reads
pub record MovedLater : Type 0 where
  pub state : State
  pub list : List Candidate
  pub reply : Reply
  pub buffer : List ℕ
  pub zeros : ℕ

unfoldable pub played_later : Step → List Candidate → List ℕ → MovedLater
played_later r l out = record { state = r.state; list = l; reply = r.reply; buffer = out; zeros = r.zeros }

-- a step with a list beside it
unfoldable pub beside : List Candidate → Moved → MovedLater
beside l m = record { state = m.state; list = l; reply = m.reply; buffer = m.buffer; zeros = m.zeros }

-- a state that waits for something of a selection
unfoldable pub waits_at : Waiting → Stand → State → State
waits_at waiting stand s = changed waiting s.tvr s.tsi s.cursor (with_stand stand s)

-- the command of a search is due
unfoldable pub asking : Applications → Search → State → List ℕ → Moved
asking t z s buf =
    record {
      state = waits_at Searching z.stand s;
      reply = Command (size_in (length buf) (asked t z));
      buffer = laid (asked t z) 0 buf;
      zeros = 0;
    }

-- a choice is due
unfoldable pub offering : Search → State → List ℕ → Moved
offering z s buf =
    record { state = waits_at (ForWord (Shopper (shown_of z.list))) z.stand s; reply = Due choice; buffer = buf; zeros = 0 }

-- by the phase, and the list that is left where it has none of its own
unfoldable pub moved_later : ChoosingPhase → State → List Candidate → List ℕ → MovedLater
moved_later (asks (AskedLater.was w)) s l buf = beside l (moved (asks w) s buf)
moved_later (asks (AskedLater.new x)) s l buf =
    beside (take most_kept x.search.list) (asking x.applications (cut_to most_kept x.search) s buf)
moved_later (hears (HeardLater.was h)) s l buf = beside l (moved (hears h) s buf)
moved_later (hears (HeardLater.new x)) s l buf = beside (take most_kept x.search.list) (offering (cut_to most_kept x.search) s buf)
moved_later (decides outcome reason z) s l buf = beside l (moved (decides outcome reason z) s buf)
