-- A whole session, event by event: from START on, the entries of the events with the commands and the decision that they bring
-- about lead the machine to where the state stands. So the state alone says what the rulebook says of the tape so far.
-- Assumes nothing.
use mathlib.Core.Path.{◌≡◌, refl, sym, ap, ◌∙◌, subst}
use mathlib.Core.List.{List, [], ◌∷◌, ◌++◌, append-nil, append_assoc}
use mathlib.Core.Option.{some}
use Prim.Native.Nat.{ℕ}
use native.Mathlib.Omega.{arith}
use Rattle.numbers.specs.Tables.{command}
use Rattle.tape_read.specs.Entries.{Entry, entry}
use Rattle.sessions.specs.Machine.{run}
use Rattle.sessions.proofs.Running.{takes_command, run_session}
use Rattle.sessions.proofs.States.{state_next}
use Rattle.sessions.proofs.Leading.{at_leads, owes_leads, decided_leads}
use Rattle.rulebook.specs.Phase.{Asked, Heard, terminal, says, Phase, opens, asks, hears, decides, command_of, tvr_of, tsi_of}
use Rattle.rulebook.specs.Session.{rules, Session, LeadsTo}
use Rattle.rulebook.specs.Machine.{Machine, at, owes}
use Rattle.rulebook.proofs.Kept.{kept}
use Rattle.session_phase.specs.declared.Question.{Question}
use Rattle.session_phase.specs.declared.Speaker.{Speaker}
use Rattle.session_phase.specs.declared.Speaker.TheVariants.{Terminal}
use Rattle.session_phase.specs.declared.Waiting.TheVariants.{Searching, ForCard, ForWord, Decided, Closed}
use Rattle.session_state.specs.Keeping.{fresh}
use Rattle.session_state.specs.declared.State.{State}
use Rattle.session_moves.specs.Moves.{Moved, speaker_of}
use Rattle.session_laws.specs.Agreeing.{StandsAt}
use Rattle.session_laws.specs.Logging.{logged, landing, Follows, Reached}
use Rattle.session_laws.specs.Bits.{Even}
use Rattle.session_laws.proofs.Stepping.{run_on, fresh_stands}
use Rattle.session_laws.proofs.Telling.{asked_at, heard_at_lem, decided_at, is_phase, never_at}

pub reached_fresh : Reached fresh []
unfolding run landing
reached_fresh = record { phase = opens; read = refl; leads = at_leads kept [] opens refl; stands = fresh_stands }

-- with the command or the decision that is due there, entries lead to the phase still
logged_leads : (es : List Entry) (p : Phase) → run rules es (at opens) ≡ some (at p) → LeadsTo (es ++ logged p) p
unfolding logged
logged_leads es (asks w) h =
    owes_leads kept (es ++ (entry command (command_of w) ∷ [])) w (state_next kept es (at (asks w)) _ h (owes w) (takes_command rules w))
logged_leads es (hears x) h = subst (λ (l : List Entry). LeadsTo l (hears x)) (sym (append-nil es)) (at_leads kept es (hears x) h)
logged_leads es (decides outcome reason z) h = decided_leads rules es outcome reason z h

-- one event on
pub reached_on : (es : List Entry) (σ : Machine) (e : Entry) (p : Phase) (buf : List ℕ) (m : Moved) → run rules es (at opens) ≡ some σ
    → Follows σ e p buf m
    → Reached m.state (es ++ (e ∷ logged p))
reached_on es σ e p buf m h f =
    record {
      phase = p;
      read = run_on es σ e p h f.taken;
      leads =
          subst (λ (l : List Entry). LeadsTo l p) (append_assoc es (e ∷ []) (logged p))
          (logged_leads (es ++ (e ∷ [])) p (state_next kept es σ e h (at p) f.taken));
      stands = f.stands;
    }

-- the terminal has no word but START
only_terminal : (h : Heard) → speaker_of h ≡ Terminal → h ≡ terminal
unfolding speaker_of
only_terminal terminal e = refl
only_terminal (says word z) e = absurd (let k : ◌≡◌ {A = ℕ} 0 1 = cc e in omega arith)

-- what the state says of the entries
module _ (s : State) (es : List Entry) (reached : Reached s es) where
  -- where the machine stands, once the phase is known
  landed : (p : Phase) → reached.phase ≡ p → run rules es (at opens) ≡ some (landing p)
  landed p e = reached.read ∙ ap (λ (q : Phase). some (landing q)) e

  stood : (p : Phase) → reached.phase ≡ p → StandsAt s p
  stood p e = subst (StandsAt s) e reached.stands

  pub reached_asked : (question : Question) → s.waiting ≡ ForCard question
      → (w : Asked) × ((run rules es (at opens) ≡ some (owes w)) × StandsAt s (asks w))
  unfolding landing
  reached_asked question e =
      let there = asked_at s reached.phase question reached.stands e in
      let w = there.0 in
      (w, (landed (asks w) there.1, stood (asks w) there.1))

  pub reached_word : (speaker : Speaker) → s.waiting ≡ ForWord speaker
      → (h : Heard) × ((speaker_of h ≡ speaker) × ((run rules es (at opens) ≡ some (at (hears h))) × StandsAt s (hears h)))
  unfolding landing
  reached_word speaker e =
      let there = heard_at_lem s reached.phase speaker reached.stands e in
      let h = there.0 in
      (h, (there.1.1, (landed (hears h) there.1.0, stood (hears h) there.1.0)))

  -- a state that has decided is one of a finished session
  pub reached_decided : (outcome reason : ℕ) → s.waiting ≡ Decided outcome reason → Session es
  unfolding landing
  reached_decided outcome reason e =
      let there = decided_at s reached.phase outcome reason reached.stands e in
      run_session rules es (landed (decides outcome reason there.0) there.1)

  pub reached_open : s.waiting ≡ Closed → ⊥
  unfolding is_phase
  reached_open e = never_at s reached.phase Closed refl reached.stands e

  pub reached_no_search : s.waiting ≡ Searching → ⊥
  unfolding is_phase
  reached_no_search e = never_at s reached.phase Searching refl reached.stands e

  -- before START TVR and TSI are the rulebook's
  pub reached_even : Even s
  reached_even e =
      let there = reached_word Terminal e in
      let stands = there.1.1.1 in
      let same = only_terminal there.0 there.1.0 in
      (stands.tvr ∙ ap (λ (h : Heard). tvr_of (hears h)) same, stands.tsi ∙ ap (λ (h : Heard). tsi_of (hears h)) same)
