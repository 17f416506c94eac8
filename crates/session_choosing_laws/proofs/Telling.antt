-- From the state back to the amended rules: what the state waits for tells which phase it stands at.
-- Assumes nothing.
use mathlib.Core.Path.{◌≡◌, refl, sym, ◌∙◌, subst}
use mathlib.Core.List.{List}
use Prim.Native.Nat.{ℕ}
use Rattle.select_list.specs.Order.{Candidate}
use Rattle.sessions.specs.Rules.{asks, hears, decides}
use Rattle.rulebook.specs.Situation.{Situation}
use Rattle.rulebook.specs.Phase.{Asked}
use Rattle.rulebook.specs.Later.{AskedLater, HeardLater}
use Rattle.rulebook_choosing.specs.Choosing.{Choosing, ChoosingPhase}
use Rattle.session_phase.specs.declared.Question.{Question}
use Rattle.session_phase.specs.declared.Speaker.{Speaker}
use Rattle.session_phase.specs.declared.Waiting.{Waiting}
use Rattle.session_phase.specs.declared.Waiting.TheVariants.{Searching, ForCard, ForWord, Decided, Closed}
use Rattle.session_state.specs.declared.State.{State}
use Rattle.session_choosing_laws.specs.Agreeing.{speaker_later, kept_later, StandsAt}

-- the phase that something is waited for at
unfoldable pub At : Waiting → ChoosingPhase → Type 0
At Searching p = (x : Choosing) × (p ≡ asks (AskedLater.new x))
At (ForCard question) p = (w : Asked) × (p ≡ asks (AskedLater.was w))
At (ForWord speaker) p = (h : HeardLater Choosing) × ((p ≡ hears h) × (speaker_later h ≡ speaker))
At (Decided outcome reason) p = (z : Situation) × (p ≡ decides outcome reason z)
At Closed p = ⊥

own_phase : (p : ChoosingPhase) → At (kept_later p) p
unfolding At kept_later
own_phase (asks (AskedLater.was w)) = (w, refl)
own_phase (asks (AskedLater.new x)) = (x, refl)
own_phase (hears h) = (h, (refl, refl))
own_phase (decides outcome reason z) = (z, refl)

module _ (s : State) (l : List Candidate) (p : ChoosingPhase) (h : StandsAt s l p) where
  pub phase_at : (x : Waiting) → s.waiting ≡ x → At x p
  phase_at x e = subst (λ (y : Waiting). At y p) (sym h.waits ∙ e) (own_phase p)

  pub searching_at : s.waiting ≡ Searching → (x : Choosing) × (p ≡ asks (AskedLater.new x))
  unfolding At
  searching_at e = phase_at Searching e

  pub asked_at : (question : Question) → s.waiting ≡ ForCard question → (w : Asked) × (p ≡ asks (AskedLater.was w))
  unfolding At
  asked_at question e = phase_at (ForCard question) e

  pub heard_at_lem : (speaker : Speaker) → s.waiting ≡ ForWord speaker
      → (x : HeardLater Choosing) × ((p ≡ hears x) × (speaker_later x ≡ speaker))
  unfolding At
  heard_at_lem speaker e = phase_at (ForWord speaker) e

  pub decided_at : (outcome reason : ℕ) → s.waiting ≡ Decided outcome reason → (z : Situation) × (p ≡ decides outcome reason z)
  unfolding At
  decided_at outcome reason e = phase_at (Decided outcome reason) e

  -- a session closed by silence is no phase of the rules
  pub closed_never : s.waiting ≡ Closed → ⊥
  unfolding At
  closed_never e = phase_at Closed e
