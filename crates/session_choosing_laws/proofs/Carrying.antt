-- At a phase of today's rules everything is as it was: what a state knows, the reply, the buffer, and the entries filled with zeros.
-- Assumes nothing.
use mathlib.Core.Path.{◌≡◌, refl, sym, ◌∙◌}
use mathlib.Core.List.{List}
use mathlib.Core.Option.{some}
use Prim.Native.Nat.{ℕ}
use lib.ListN.{length}
use Rattle.tape_read.specs.Entries.{Entry}
use Rattle.select_list.specs.Order.{Candidate}
use Rattle.sessions.specs.Machine.{at, next}
use Rattle.rulebook.specs.Situation.{Situation}
use Rattle.rulebook.specs.Phase.{Asked, Heard, Phase, asks, hears, decides, tvr_of, tsi_of}
use Rattle.rulebook.specs.Machine as today
use Rattle.rulebook_zeros.specs.Zeros.{unsupplied_in}
use Rattle.rulebook.specs.Later.{AskedLater, HeardLater, as_was, command_later, kind_later}
use Rattle.rulebook_choosing.specs.Session.{rules}
use Rattle.session_state.specs.declared.State.{State}
use Rattle.session_moves.specs.Moves.{Moved, kept_as, reply_in, buffer_in}
use Rattle.session_laws.specs.Agreeing as Today
use Rattle.session_laws.specs.Logging as TodayLog
use Rattle.session_choosing.specs.Moves.{beside}
use Rattle.rulebook_choosing.specs.Machine.{Machine}
use Rattle.session_choosing_laws.specs.Agreeing.{speaker_later, kept_later, tvr_later, tsi_later, Knows, StandsAt}
use Rattle.choosing_zeros.proofs.Counting.{was_counted}
use Rattle.session_choosing_laws.specs.Logging.{reply_later, buffer_later, Follows}

module _ (s : State) (l : List Candidate) where
  pub was_stands : (p : Phase) → Today.StandsAt s p → StandsAt s l (as_was p)
  unfolding as_was kept_as kept_later speaker_later tvr_of tsi_of tvr_later tsi_later Knows
  was_stands (asks w) h = record { waits = h.waits; tvr = h.tvr; tsi = h.tsi; knows = h.knows }
  was_stands (hears x) h = record { waits = h.waits; tvr = h.tvr; tsi = h.tsi; knows = h.knows }
  was_stands (decides outcome reason z) h = record { waits = h.waits; tvr = h.tvr; tsi = h.tsi; knows = tt }

  pub asks_before : (w : Asked) → StandsAt s l (asks (AskedLater.was w)) → Today.StandsAt s (asks w)
  unfolding kept_as kept_later tvr_later tsi_later Knows
  asks_before w h = record { waits = h.waits; tvr = h.tvr; tsi = h.tsi; knows = h.knows }

  pub hears_before : (x : Heard) → StandsAt s l (hears (HeardLater.was x)) → Today.StandsAt s (hears x)
  unfolding kept_as kept_later speaker_later tvr_later tsi_later Knows
  hears_before x h = record { waits = h.waits; tvr = h.tvr; tsi = h.tsi; knows = h.knows }

  pub decides_before : (outcome reason : ℕ) (z : Situation) → StandsAt s l (decides outcome reason z)
      → Today.StandsAt s (decides outcome reason z)
  unfolding kept_as kept_later tvr_of tsi_of tvr_later tsi_later Today.Knows
  decides_before outcome reason z h = record { waits = h.waits; tvr = h.tvr; tsi = h.tsi; knows = tt }

reply_was : (room : ℕ) (p : Phase) → reply_in room p ≡ reply_later room (as_was p)
unfolding reply_in reply_later as_was command_later kind_later
reply_was room (asks w) = refl
reply_was room (hears x) = refl
reply_was room (decides outcome reason z) = refl

buffer_was : (p : Phase) (buf : List ℕ) → buffer_in p buf ≡ buffer_later (as_was p) buf
unfolding buffer_in buffer_later as_was command_later
buffer_was (asks w) buf = refl
buffer_was (hears x) buf = refl
buffer_was (decides outcome reason z) buf = refl

-- a step of today's, with a list beside it
module _ (σ : Machine) (e : Entry) (p : Phase) (buf : List ℕ) (m : Moved) (l : List Candidate) where
  pub was_follows : next rules σ e ≡ some (at (as_was p)) → Today.StandsAt m.state p → m.reply ≡ reply_in (length buf) p
      → m.buffer ≡ buffer_in p buf → m.zeros ≡ unsupplied_in p → Follows σ e (as_was p) buf (beside l m)
  unfolding beside
  was_follows n h r b z =
      record {
        taken = n;
        stands = was_stands m.state l p h;
        reply = r ∙ reply_was (length buf) p;
        buffer = b ∙ buffer_was p buf;
        zeros = z ∙ sym (was_counted p);
      }

  pub carried : (τ : today.Machine) (d : Entry) → next rules σ e ≡ some (at (as_was p)) → TodayLog.Follows τ d p buf m
      → Follows σ e (as_was p) buf (beside l m)
  carried τ d n f = was_follows n f.stands f.reply f.buffer f.zeros
