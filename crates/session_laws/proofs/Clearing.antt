-- No step clears a bit of TVR or TSI, whatever the state: what was asked, or whose word is due, is read off the state itself, and from
-- there on it is the rulebook's law. Before START both are zeros.
-- Assumes nothing.
use mathlib.Core.Path.{◌≡◌, refl, ap, ◌∙◌}
use mathlib.Core.List.{List}
use Prim.Native.Nat.{ℕ}
use Rattle.decide_tvr.specs.Bits.{joined}
use Rattle.decide_tvr.proofs.Rows.{joined_self}
use Rattle.rulebook.specs.Phase.{Phase, Heard, hears, terminal, says, tvr_of, tsi_of}
use Rattle.rulebook.specs.Turn.{turn, after}
use Rattle.rulebook.proofs.Growing.{turn_kept, after_grows}
use Rattle.session_phase.specs.declared.Speaker.TheVariants.{Terminal, Says, Shopper}
use Rattle.session_phase.specs.declared.Waiting.{Waiting}
use Rattle.session_phase.specs.declared.Waiting.TheVariants.{Searching, ForCard, ForWord, Decided, Closed}
use Rattle.session_state.specs.Reading.{situation_with, late, asked_by}
use Rattle.session_state.specs.Keeping.{changed, begun}
use Rattle.session_state.specs.declared.State.{State}
use Rattle.session_moves.specs.Moves.{standing, moved, unmoved, shut}
use Rattle.session_answers.specs.Keeping.{keeping}
use Rattle.session_events.specs.Events.{answer_step, word_step, step_at, step}
use Rattle.session_laws.specs.Bits.{Keeps, Even}
use Rattle.session_laws.proofs.Standing.{asked_tvr, asked_tsi}

pub keeps_self : (s : State) → Keeps s s
keeps_self s = record { tvr = joined_self s.tvr; tsi = joined_self s.tsi }

moved_keeps : (s u : State) (p : Phase) (buf : List ℕ) → joined s.tvr (tvr_of p) ≡ tvr_of p → joined s.tsi (tsi_of p) ≡ tsi_of p
    → Keeps s (moved p u buf).state
unfolding moved standing changed
moved_keeps s u p buf t i = record { tvr = t; tsi = i }

shut_keeps : (s : State) (buf : List ℕ) → Keeps s (shut s buf).state
unfolding shut changed
shut_keeps s buf = record { tvr = joined_self s.tvr; tsi = joined_self s.tsi }

module _ (s : State) (p buf : List ℕ) (even : Even s) where
  -- a word that is due with the state's TVR and TSI
  word_keeps : (h : Heard) (u : State) → s.tvr ≡ tvr_of (hears h) → s.tsi ≡ tsi_of (hears h) → Keeps s (moved (after h p) u buf).state
  word_keeps h u t i =
      let grows = after_grows h p in
      moved_keeps s u (after h p) buf (ap (λ (x : List ℕ). joined x (tvr_of (after h p))) t ∙ grows.tvr)
      (ap (λ (x : List ℕ). joined x (tsi_of (after h p))) i ∙ grows.tsi)

  by_waiting : (x : Waiting) → s.waiting ≡ x → Keeps s (step_at x s p buf).state
  unfolding step_at answer_step word_step unmoved tvr_of tsi_of late situation_with
  by_waiting Searching e = shut_keeps s buf
  by_waiting (ForCard question) e =
      let w = asked_by question s in
      let kept = turn_kept w p in
      moved_keeps s (keeping w p s) (turn w p) buf
      (ap (λ (x : List ℕ). joined x (tvr_of (turn w p))) (asked_tvr question s) ∙ kept.tvr)
      (ap (λ (x : List ℕ). joined x (tsi_of (turn w p))) (asked_tsi question s) ∙ kept.tsi)
  by_waiting (ForWord Terminal) e = word_keeps terminal (begun p) (even e).0 (even e).1
  by_waiting (ForWord (Says word count)) e = word_keeps (says word (late s)) s refl refl
  by_waiting (ForWord (Shopper shown)) e = shut_keeps s buf
  by_waiting (Decided outcome reason) e = keeps_self s
  by_waiting Closed e = keeps_self s

  pub step_keeps : Keeps s (step s p buf).state
  unfolding step
  step_keeps = by_waiting s.waiting refl
