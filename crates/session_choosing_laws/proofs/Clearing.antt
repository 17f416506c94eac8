-- No step clears a bit of TVR or TSI under the amended rules, whatever the state: a selection leaves them as they are, START with a list begins
-- with zeros as any other does, and everything else is today's step.
-- Assumes nothing.
use mathlib.Core.Path.{◌≡◌, refl, ap, ◌∙◌}
use mathlib.Core.List.{List, []}
use Prim.Native.Nat.{ℕ}
use Rattle.slices.specs.Writing.{zeros}
use Rattle.slices.proofs.Choice.{picked}
use Rattle.start_choosing.specs.Start.{is_listing}
use Rattle.decide_tvr.specs.Bits.{joined}
use Rattle.decide_tvr.proofs.Rows.{joined_self}
use Rattle.select_list.specs.Order.{Candidate}
use Rattle.select_search.specs.Search as search
use Rattle.select_search.specs.Search.{Found, runs, over}
use Rattle.rulebook.specs.Phase.{situation_of, tvr_of, tsi_of}
use Rattle.rulebook_choosing.specs.Choosing.{following, searched, chose}
use Rattle.session_phase.specs.declared.Speaker.TheVariants.{Terminal, Says, Shopper}
use Rattle.session_phase.specs.declared.Waiting.{Waiting}
use Rattle.session_phase.specs.declared.Waiting.TheVariants.{Searching, ForCard, ForWord, Decided, Closed}
use Rattle.session_state.specs.Reading.{situation_with, early}
use Rattle.session_state.specs.Keeping.{with_stand, changed, state_at, begun_listing}
use Rattle.session_state.specs.declared.State.{State}
use Rattle.session_moves.specs.Moves.{standing, moved}
use Rattle.session_events.specs.Events.{step}
use Rattle.session_laws.specs.Bits.{Keeps, Even}
use Rattle.session_laws.proofs.Clearing as today
use Rattle.session_choosing.specs.Moves.{MovedLater, beside, waits_at, asking, offering, moved_later}
use Rattle.session_choosing.specs.Events.{choosing_in, begins, start_later, word_later, later_at, step_later}

module _ (s : State) (l : List Candidate) (p buf : List ℕ) (even : Even s) where
  -- TVR and TSI as they are
  found_keeps : (f : Found) (left : List Candidate) → Keeps s (moved_later (following (choosing_in s l) f) s left buf).state
  unfolding following choosing_in moved_later beside asking offering waits_at with_stand changed moved standing tvr_of tsi_of
      situation_of early
      situation_with
  found_keeps (search.asks z) left = record { tvr = joined_self s.tvr; tsi = joined_self s.tsi }
  found_keeps (search.shows z) left = record { tvr = joined_self s.tvr; tsi = joined_self s.tsi }
  found_keeps (runs list) left = record { tvr = joined_self s.tvr; tsi = joined_self s.tsi }
  found_keeps (over reason) left = record { tvr = joined_self s.tvr; tsi = joined_self s.tsi }

  was_keeps : Keeps s (beside l (step s p buf)).state
  unfolding beside
  was_keeps = today.step_keeps s p buf even

  begins_keeps : s.waiting ≡ ForWord Terminal → Keeps s (begins p buf).state
  unfolding begins moved_later beside asking waits_at with_stand changed begun_listing state_at tvr_of tsi_of
  begins_keeps e =
      record {
        tvr = ap (λ (x : List ℕ). joined x (zeros 5)) (even e).0 ∙ joined_self (zeros 5);
        tsi = ap (λ (x : List ℕ). joined x (zeros 2)) (even e).1 ∙ joined_self (zeros 2);
      }

  by_waiting : (x : Waiting) → s.waiting ≡ x → Keeps s (later_at x s l p buf).state
  unfolding later_at word_later start_later searched chose
  by_waiting Searching e = found_keeps _ []
  by_waiting (ForCard question) e = was_keeps
  by_waiting (ForWord Terminal) e =
      picked (λ (m : MovedLater). Keeps s m.state) (is_listing p) (begins p buf) (beside l (step s p buf))
      (λ y. begins_keeps e)
      (λ n. was_keeps)
  by_waiting (ForWord (Says word count)) e = was_keeps
  by_waiting (ForWord (Shopper shown)) e = found_keeps _ l
  by_waiting (Decided outcome reason) e = was_keeps
  by_waiting Closed e = was_keeps

  pub step_keeps : Keeps s (step_later s l p buf).state
  unfolding step_later
  step_keeps = by_waiting s.waiting refl
