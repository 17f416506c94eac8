-- From the state back to the rulebook: what the state waits for tells which phase of the rulebook it stands at.
-- Assumes nothing.
use mathlib.Core.Path.{◌≡◌, refl, sym, ap, ◌∙◌}
use mathlib.Core.Bool.{Bool, true, false, false≢true}
use Prim.Native.Nat.{ℕ}
use native.Mathlib.Omega.{arith}
use Rattle.rulebook.specs.Situation.{Situation}
use Rattle.rulebook.specs.Phase.{Asked, Heard, terminal, says, Phase, asks, hears, decides}
use Rattle.session_phase.specs.declared.Question.{Question}
use Rattle.session_phase.specs.declared.Speaker.{Speaker}
use Rattle.session_phase.specs.declared.Speaker.TheVariants.{Terminal, Says, Shopper}
use Rattle.session_phase.specs.declared.Waiting.{Waiting}
use Rattle.session_phase.specs.declared.Waiting.TheVariants.{Searching, ForCard, ForWord, Decided, Closed}
use Rattle.session_state.specs.declared.State.{State}
use Rattle.session_moves.specs.Moves.{question_of, speaker_of, kept_as}
use Rattle.session_laws.specs.Agreeing.{StandsAt}

-- what is waited for at a phase of the rulebook: neither a session closed by silence nor a selection
unfoldable pub is_phase : Waiting → Bool
is_phase Searching = false
is_phase (ForCard question) = true
is_phase (ForWord Terminal) = true
is_phase (ForWord (Says word count)) = true
is_phase (ForWord (Shopper shown)) = false
is_phase (Decided outcome reason) = true
is_phase Closed = false

kept_phase : (p : Phase) → is_phase (kept_as p) ≡ true
unfolding is_phase kept_as speaker_of
kept_phase (asks w) = refl
kept_phase (hears terminal) = refl
kept_phase (hears (says word z)) = refl
kept_phase (decides outcome reason z) = refl

module _ (s : State) where
  pub asked_at : (p : Phase) (question : Question) → StandsAt s p → s.waiting ≡ ForCard question → (w : Asked) × (p ≡ asks w)
  unfolding kept_as
  asked_at (asks w) question h e = (w, refl)
  asked_at (hears x) question h e =
      absurd (let same : ForWord (speaker_of x) ≡ ForCard question = sym h.waits ∙ e in let z : ◌≡◌ {A = ℕ} 0 1 = cc same in omega arith)
  asked_at (decides outcome reason z) question h e =
      absurd (let same : Decided outcome reason ≡ ForCard question = sym h.waits ∙ e in let z : ◌≡◌ {A = ℕ} 0 1 = cc same in omega arith)

  pub heard_at_lem : (p : Phase) (speaker : Speaker) → StandsAt s p → s.waiting ≡ ForWord speaker
      → (h : Heard) × ((p ≡ hears h) × (speaker_of h ≡ speaker))
  unfolding kept_as
  heard_at_lem (asks w) speaker h e =
      absurd (let same : ForCard (question_of w) ≡ ForWord speaker = sym h.waits ∙ e in let z : ◌≡◌ {A = ℕ} 0 1 = cc same in omega arith)
  heard_at_lem (hears x) speaker h e = let same : ForWord (speaker_of x) ≡ ForWord speaker = sym h.waits ∙ e in (x, (refl, cc same))
  heard_at_lem (decides outcome reason z) speaker h e =
      absurd (let same : Decided outcome reason ≡ ForWord speaker = sym h.waits ∙ e in let z : ◌≡◌ {A = ℕ} 0 1 = cc same in omega arith)

  pub decided_at : (p : Phase) (outcome reason : ℕ) → StandsAt s p → s.waiting ≡ Decided outcome reason
      → (z : Situation) × (p ≡ decides outcome reason z)
  unfolding kept_as
  decided_at (asks w) o r h e =
      absurd (let same : ForCard (question_of w) ≡ Decided o r = sym h.waits ∙ e in let z : ◌≡◌ {A = ℕ} 0 1 = cc same in omega arith)
  decided_at (hears x) o r h e =
      absurd (let same : ForWord (speaker_of x) ≡ Decided o r = sym h.waits ∙ e in let z : ◌≡◌ {A = ℕ} 0 1 = cc same in omega arith)
  decided_at (decides outcome reason z) o r h e =
      let same : Decided outcome reason ≡ Decided o r = sym h.waits ∙ e in
      let outcomes : outcome ≡ o = cc same in
      let reasons : reason ≡ r = cc same in
      (z, λ i. decides (outcomes i) (reasons i) z)

  -- any other waiting is no phase of the rulebook
  pub never_at : (p : Phase) (x : Waiting) → is_phase x ≡ false → StandsAt s p → s.waiting ≡ x → ⊥
  never_at p x n h e = false≢true (sym n ∙ (ap is_phase (sym e ∙ h.waits) ∙ kept_phase p))
