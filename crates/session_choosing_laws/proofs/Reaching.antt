-- A whole session under the amended rules, event by event: from START on, the entries of the events with the commands and the decision that they
-- bring about lead the machine to where the state with its list stands.
-- Assumes nothing.
use mathlib.Core.Path.{◌≡◌, refl, sym, ap, ◌∙◌, subst}
use mathlib.Core.List.{List, [], ◌∷◌, ◌++◌, append-nil, append_assoc}
use mathlib.Core.Option.{some}
use Prim.Native.Nat.{ℕ}
use native.Mathlib.Omega.{arith}
use Rattle.numbers.specs.Tables.{command}
use Rattle.tape_read.specs.Entries.{Entry, entry}
use Rattle.select_list.specs.Order.{Candidate}
use Rattle.sessions.specs.Rules.{asks, hears, decides}
use Rattle.sessions.specs.Session.{LeadsTo}
use Rattle.sessions.specs.Machine.{at, owes, run}
use Rattle.sessions.proofs.Running.{takes_command, run_session}
use Rattle.sessions.proofs.States.{state_next}
use Rattle.sessions.proofs.Leading.{at_leads, owes_leads, decided_leads}
use Rattle.rulebook.specs.Phase.{terminal, says}
use Rattle.rulebook.specs.Later.{AskedLater, HeardLater}
use Rattle.rulebook_choosing.specs.Choosing.{Choosing, ChoosingPhase}
use Rattle.rulebook_choosing.specs.Session.{rules, Session}
use Rattle.rulebook_choosing.proofs.Kept.{kept}
use Rattle.session_phase.specs.declared.Question.{Question}
use Rattle.session_phase.specs.declared.Speaker.{Speaker}
use Rattle.session_phase.specs.declared.Speaker.TheVariants.{Terminal}
use Rattle.session_phase.specs.declared.Waiting.TheVariants.{Searching, ForCard, ForWord, Decided, Closed}
use Rattle.session_state.specs.Keeping.{fresh}
use Rattle.session_state.specs.declared.State.{State}
use Rattle.session_moves.specs.Moves.{speaker_of}
use Rattle.session_laws.specs.Bits.{Even}
use Rattle.session_choosing.specs.Moves.{MovedLater}
use Rattle.rulebook_choosing.specs.Machine.{Machine}
use Rattle.session_choosing_laws.specs.Agreeing.{speaker_later, tvr_later, tsi_later, StandsAt}
use Rattle.session_choosing_laws.specs.Logging.{logged, landing, Follows, Reached}
use Rattle.session_choosing_laws.proofs.Stepping.{run_on, fresh_stands}
use Rattle.session_choosing_laws.proofs.Telling.{searching_at, asked_at, heard_at_lem, decided_at, closed_never}

pub reached_fresh : (l : List Candidate) → Reached fresh l []
unfolding run landing
reached_fresh l =
    record { phase = rules.opens; read = refl; leads = at_leads kept [] rules.opens refl; stands = fresh_stands l }

-- with the command or the decision that is due there, entries lead to the phase still
logged_leads : (es : List Entry) (p : ChoosingPhase) → run rules es (at rules.opens) ≡ some (at p) → LeadsTo rules (es ++ logged p) p
unfolding logged
logged_leads es (asks w) h =
    owes_leads kept (es ++ (entry command (rules.command_of w) ∷ [])) w
    (state_next kept es (at (asks w)) _ h (owes w) (takes_command rules w))
logged_leads es (hears x) h = subst (λ (l : List Entry). LeadsTo rules l (hears x)) (sym (append-nil es)) (at_leads kept es (hears x) h)
logged_leads es (decides outcome reason z) h = decided_leads rules es outcome reason z h

-- one event on
pub reached_on : (es : List Entry) (σ : Machine) (e : Entry) (p : ChoosingPhase) (buf : List ℕ) (m : MovedLater)
    → run rules es (at rules.opens) ≡ some σ
    → Follows σ e p buf m
    → Reached m.state m.list (es ++ (e ∷ logged p))
reached_on es σ e p buf m h f =
    record {
      phase = p;
      read = run_on es σ e p h f.taken;
      leads =
          subst (λ (l : List Entry). LeadsTo rules l p) (append_assoc es (e ∷ []) (logged p))
          (logged_leads (es ++ (e ∷ [])) p (state_next kept es σ e h (at p) f.taken));
      stands = f.stands;
    }

-- the terminal has no word but START
only_terminal : (h : HeardLater Choosing) → speaker_later h ≡ Terminal → h ≡ HeardLater.was terminal
unfolding speaker_later speaker_of
only_terminal (HeardLater.was terminal) e = refl
only_terminal (HeardLater.was (says word z)) e = absurd (let k : ◌≡◌ {A = ℕ} 0 1 = cc e in omega arith)
only_terminal (HeardLater.new x) e = absurd (let k : ◌≡◌ {A = ℕ} 0 1 = cc e in omega arith)

-- what the state says of the entries
module _ (s : State) (l : List Candidate) (es : List Entry) (reached : Reached s l es) where
  -- where the machine stands, once the phase is known
  landed : (p : ChoosingPhase) → reached.phase ≡ p → run rules es (at rules.opens) ≡ some (landing p)
  landed p e = reached.read ∙ ap (λ (q : ChoosingPhase). some (landing q)) e

  stood : (p : ChoosingPhase) → reached.phase ≡ p → StandsAt s l p
  stood p e = subst (StandsAt s l) e reached.stands

  -- a command is out, and its answer is due
  abbrev Owing : Type 0
  Owing = (w : AskedLater Choosing) × ((run rules es (at rules.opens) ≡ some (owes w)) × StandsAt s l (asks w))

  owing : (w : AskedLater Choosing) → reached.phase ≡ asks w → Owing
  unfolding landing
  owing w e = (w, (landed (asks w) e, stood (asks w) e))

  pub reached_asked : (question : Question) → s.waiting ≡ ForCard question → Owing
  reached_asked question e =
      let there = asked_at s l reached.phase reached.stands question e in owing (AskedLater.was there.0) there.1

  pub reached_searching : s.waiting ≡ Searching → Owing
  reached_searching e =
      let there = searching_at s l reached.phase reached.stands e in owing (AskedLater.new there.0) there.1

  pub reached_word : (speaker : Speaker) → s.waiting ≡ ForWord speaker
      → (h : HeardLater Choosing)
      × ((speaker_later h ≡ speaker) × ((run rules es (at rules.opens) ≡ some (at (hears h))) × StandsAt s l (hears h)))
  unfolding landing
  reached_word speaker e =
      let there = heard_at_lem s l reached.phase reached.stands speaker e in
      let h = there.0 in
      (h, (there.1.1, (landed (hears h) there.1.0, stood (hears h) there.1.0)))

  -- a state that has decided is one of a finished session
  pub reached_decided : (outcome reason : ℕ) → s.waiting ≡ Decided outcome reason → Session es
  unfolding landing
  reached_decided outcome reason e =
      let there = decided_at s l reached.phase reached.stands outcome reason e in
      run_session rules es (landed (decides outcome reason there.0) there.1)

  pub reached_open : s.waiting ≡ Closed → ⊥
  reached_open e = closed_never s l reached.phase reached.stands e

  -- before START TVR and TSI are the rulebook's
  pub reached_even : Even s
  unfolding tvr_later tsi_later
  reached_even e =
      let there = reached_word Terminal e in
      let stands = there.1.1.1 in
      let same = only_terminal there.0 there.1.0 in (
        stands.tvr ∙ ap (λ (h : HeardLater Choosing). tvr_later (hears h)) same,
        stands.tsi
            ∙ ap (λ (h : HeardLater Choosing). tsi_later (hears h)) same,
      )
