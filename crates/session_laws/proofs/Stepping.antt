-- Each accepted step is one of the machine's: the entry is the one that the machine takes, and the state is left standing at the
-- phase that it takes the machine to. The command or the decision that the phase puts on the tape is the next entry of the machine.
-- Assumes nothing.
use mathlib.Core.Path.{◌≡◌, refl, sym, ap, ◌∙◌, subst}
use mathlib.Core.Bool.{true}
use mathlib.Core.List.{List, [], ◌∷◌, ◌++◌}
use mathlib.Core.Option.{some}
use Prim.Native.Nat.{ℕ}
use Rattle.numbers.specs.Tables.{answer}
use Rattle.tape_read.specs.Entries.{Entry, entry}
use Rattle.sessions.specs.Session.{is_payload}
use Rattle.sessions.specs.Machine.{next, run, and_on}
use Rattle.sessions.proofs.Running.{takes_command, takes_answer, takes_heard, takes_decision}
use Rattle.sessions.proofs.Reading.{run_append}
use Rattle.rulebook.specs.Situation.{Situation}
use Rattle.rulebook.specs.Phase.{Asked, Heard, terminal, says, Phase, opens, asks, hears, decides, due_kind, tvr_of, tsi_of}
use Rattle.rulebook.specs.Turn.{turn, allowed, after}
use Rattle.rulebook.specs.Machine.{Machine, at, owes}
use Rattle.rulebook.specs.Session.{rules}
use Rattle.session_phase.specs.Waiting.{is_decided}
use Rattle.session_phase.specs.declared.Waiting.{Waiting}
use Rattle.session_state.specs.Reading.{asked_by}
use Rattle.session_state.specs.Keeping.{state_at, fresh}
use Rattle.session_state.specs.declared.State.{State}
use Rattle.session_moves.specs.Moves.{Moved, question_of, speaker_of, kept_as, moved}
use Rattle.session_answers.specs.Keeping.{keeping}
use Rattle.session_events.specs.Events.{answer_step, word_step, step_at, step}
use Rattle.session_laws.specs.Agreeing.{forgets, Knows, StandsAt, Agrees}
use Rattle.session_laws.specs.Logging.{logged, landing, Follows}
use Rattle.session_laws.proofs.Standing.{turn_forgets, keeping_forgets}
use Rattle.session_laws.proofs.Fitting.{Fits, fits_stands, turn_fits, goes_from, word_fits}

-- a state that stands at a phase agrees with the machine once the phase's entry is read
pub lands_at : (s : State) (p : Phase) → StandsAt s p → Agrees s (landing p)
unfolding Agrees landing kept_as is_decided
lands_at s (asks w) h = h
lands_at s (hears h) at-word = at-word
lands_at s (decides outcome reason z) h = ap is_decided h.waits

-- the machine reads the phase's own entry
pub run_logged : (p : Phase) → run rules (logged p) (at p) ≡ some (landing p)
unfolding run and_on logged landing
run_logged (asks w) = ap (and_on (run rules [])) (takes_command rules w)
run_logged (hears h) = refl
run_logged (decides outcome reason z) = ap (and_on (run rules [])) (takes_decision rules outcome reason z)

-- after an event and what it brings about, wherever the machine stood
pub run_on : (es : List Entry) (σ : Machine) (e : Entry) (p : Phase) → run rules es (at opens) ≡ some σ → next rules σ e ≡ some (at p)
    → run rules (es ++ (e ∷ logged p)) (at opens) ≡ some (landing p)
unfolding run and_on
run_on es σ e p h n =
    run_append rules es (e ∷ logged p) (at opens)
    ∙ (ap (and_on (run rules (e ∷ logged p))) h ∙ (ap (and_on (run rules (logged p))) n ∙ run_logged p))

-- a step of the definition
follows_as : (σ : Machine) (e : Entry) (p : Phase) (s : State) (buf : List ℕ) (m : Moved) → m ≡ moved p s buf → next rules σ e ≡ some (at p)
    → Fits p s
    → Follows σ e p buf m
unfolding moved
follows_as σ e p s buf m same n f =
    subst (Follows σ e p buf) (sym same) (record { taken = n; stands = fits_stands p s f; reply = refl; buffer = refl; zeros = refl })

pub fresh_stands : StandsAt fresh opens
unfolding Knows speaker_of kept_as tvr_of tsi_of fresh state_at
fresh_stands = record { waits = refl; tvr = refl; tsi = refl; knows = tt }

-- ---- an answer of the card's
module _ (s : State) (w : Asked) (a buf : List ℕ) (stands : StandsAt s (asks w)) where
  question_known : asked_by (question_of w) s ≡ forgets w
  unfolding Knows
  question_known = stands.knows

  pub answered_moved : step s a buf ≡ moved (turn w a) (keeping w a s) buf
  unfolding step step_at answer_step kept_as
  answered_moved =
      ap (λ (x : Waiting). step_at x s a buf) stands.waits
      ∙ (ap (λ (v : Asked). moved (turn v a) (keeping v a s) buf) question_known
      ∙ sym (λ i. moved (turn_forgets w a i) (keeping_forgets w a s i) buf))

  answer_fits : Fits (turn w a) (keeping w a s)
  answer_fits =
      subst (λ (p : Phase). Fits p (keeping w a s)) (sym (turn_forgets w a))
      (subst (Fits (turn (forgets w) a)) (sym (keeping_forgets w a s))
      (subst (λ (v : Asked). Fits (turn v a) (keeping v a s)) question_known (turn_fits (question_of w) s a)))

  pub answer_step_lem : is_payload a ≡ true → Follows (owes w) (entry answer a) (turn w a) buf (step s a buf)
  answer_step_lem ok =
      follows_as (owes w) (entry answer a) (turn w a) (keeping w a s) buf (step s a buf) answered_moved
      (takes_answer rules w a ok) answer_fits

-- ---- somebody else's word
pub heard_moved : (s : State) (h : Heard) (p buf : List ℕ) → StandsAt s (hears h) → step s p buf ≡ moved (after h p) (goes_from h p s) buf
unfolding step step_at word_step kept_as speaker_of Knows goes_from
heard_moved s terminal p buf stands = ap (λ (x : Waiting). step_at x s p buf) stands.waits
heard_moved s (says word z) p buf stands =
    ap (λ (x : Waiting). step_at x s p buf) stands.waits ∙ ap (λ (x : Situation). moved (after (says word x) p) s buf) stands.knows

module _ (s : State) (h : Heard) (p buf : List ℕ) (stands : StandsAt s (hears h)) where
  pub word_step_lem : allowed h p ≡ true → is_payload p ≡ true
      → Follows (at (hears h)) (entry (due_kind h) p) (after h p) buf (step s p buf)
  word_step_lem fits ok =
      follows_as (at (hears h)) (entry (due_kind h) p) (after h p) (goes_from h p s) buf (step s p buf) (heard_moved s h p buf stands)
      (takes_heard rules h p fits ok)
      (word_fits h s p stands.knows fits)
