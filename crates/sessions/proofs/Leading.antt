-- Where the machine stands says which phase the entries lead to, and the other way round: while a session is read, its plays and the
-- machine go from phase to phase together, and every phase can be finished. So what is stated over the phases of sessions can be shown
-- by the machine, and nobody need believe the machine to read it.
-- Assumes nothing.
use mathlib.Core.Path.{◌≡◌, refl, sym, ap, ap₂, ◌∙◌, subst}
use mathlib.Core.List.{List, [], ◌∷◌, ◌++◌, append-nil}
use mathlib.Core.Logic.{◌⊎◌, inl, inr}
use mathlib.Core.Option.{some}
use Prim.Native.Nat.{ℕ, suc, ◌+◌}
use native.Mathlib.Omega.{arith}
use lib.ListN.{length, take, drop, length-append}
use lib.Seq.{take-add, drop-nil}
use Rattle.numbers.specs.Tables.{command, answer, decision}
use Rattle.tape_read.specs.Entries.{Entry, entry}
use Rattle.sessions.specs.Rules.{Phase, asks, hears, decides, Rules}
use Rattle.sessions.specs.Session.{Plays, exchanged, heard, decided, Session, phases_of, Reads, LeadsTo}
use Rattle.sessions.specs.Kept.{Kept}
use Rattle.sessions.specs.Machine.{Machine, at, owes, done, and_on, next, run}
use Rattle.sessions.proofs.Lists.{head_same, tail_same, snoc_same}
use Rattle.sessions.proofs.Single.{reads_once}
use Rattle.sessions.proofs.Running.{Follows, taken, takes_command, takes_answer, takes_heard, takes_decision, follows_ends}
use Rattle.sessions.proofs.Reading.{run_append}
use Rattle.sessions.proofs.Ends.{finishes}
use Rattle.sessions.proofs.Sorting.{joined, to_end}

module _ {A H S : Type 0} where
  -- the phase of a state, as a list; at the end there is none
  unfoldable pub standing : Machine A H S → List (Phase A H S)
  standing (at p) = p ∷ []
  standing (owes w) = asks w ∷ []
  standing done = []

  one_less : (n : ℕ) (ps : List (Phase A H S)) → drop (suc n) ps ≡ drop n (drop 1 ps)
  one_less n [] = sym (drop-nil n)
  one_less n (p ∷ ps) = refl

module _ {A H S : Type 0} (rules : Rules A H S) where
  open rules use {opens, command_of, turn, after, decision_of}

  -- the phases of what follows a state; after its command a phase has one entry left
  abbrev phases_in : (σ : Machine A H S) (es : List Entry) → Follows rules σ es → List (Phase A H S)
  phases_in (at p) es play = phases_of rules play
  phases_in (owes w) es play = drop 1 (phases_of rules play)
  phases_in done es ended = []

  first_phase_lem : {p : Phase A H S} {es : List Entry} (play : Plays rules p es) → take 1 (phases_of rules play) ≡ p ∷ []
  unfolding phases_of
  first_phase_lem (exchanged c ok play) = refl
  first_phase_lem (heard k fits ok play) = refl
  first_phase_lem (decided d) = refl

  second_phase : {w : A} {es : List Entry} (play : Plays rules (asks w) es) → take 1 (drop 1 (phases_of rules play)) ≡ asks w ∷ []
  unfolding phases_of
  second_phase (exchanged c ok play) = refl

  stands_first : (σ : Machine A H S) (es : List Entry) (play : Follows rules σ es) → take 1 (phases_in σ es play) ≡ standing σ
  unfolding standing
  stands_first (at p) es play = first_phase_lem play
  stands_first (owes w) es play = second_phase play
  stands_first done es ended = refl

  -- what follows an entry, with its phases: those of what followed before it, less the first
  abbrev After : Machine A H S → List Entry → List (Phase A H S) → Type 0
  After τ es ps = (play : Follows rules τ es) × (phases_in τ es play ≡ ps)

  abbrev LedWith : Machine A H S → Entry → List Entry → List (Phase A H S) → Type 0
  LedWith σ e es ps = (τ : Machine A H S) × ((next rules σ e ≡ some τ) × After τ es (drop 1 ps))

  led : (σ τ : Machine A H S) (x e : Entry) (fs es : List Entry) (ps : List (Phase A H S)) → next rules σ x ≡ some τ
      → After τ fs (drop 1 ps) → x ∷ fs ≡ e ∷ es → LedWith σ e es ps
  led σ τ x e fs es ps h rest same = (
    τ,
    (
      ap (next rules σ) (sym (head_same x e fs es same)) ∙ h,
      subst (λ (l : List Entry). After τ l (drop 1 ps)) (tail_same x e fs es same) rest,
    ),
  )

  from_phase : {p : Phase A H S} {l : List Entry} (play : Plays rules p l) (e : Entry) (es : List Entry) → l ≡ e ∷ es
      → LedWith (at p) e es (phases_of rules play)
  unfolding phases_of
  from_phase (exchanged {w} {c} {a} {es = fs} f ok play) e es h =
      led (at (asks w)) (owes w) (entry command c) e (entry answer a ∷ fs) es (asks w ∷ asks w ∷ phases_of rules play)
      (ap (λ (x : List ℕ). next rules (at (asks w)) (entry command x)) f ∙ takes_command rules w) (exchanged refl ok play, refl) h
  from_phase (heard {h} {k} {p} {es = fs} f fits ok play) e es same =
      led (at (hears h)) (at (after h p)) (entry k p) e fs es (hears h ∷ phases_of rules play)
      (ap (λ (x : ℕ). next rules (at (hears h)) (entry x p)) f ∙ takes_heard rules h p fits ok) (play, refl) same
  from_phase (decided {outcome} {reason} {s} {d} f) e es h =
      led (at (decides outcome reason s)) done (entry decision d) e [] es (decides outcome reason s ∷ [])
      (ap (λ (x : List ℕ). next rules (at (decides outcome reason s)) (entry decision x)) f ∙ takes_decision rules outcome reason s)
      (refl, refl) h

  from_asked : {w : A} {l : List Entry} (play : Plays rules (asks w) l) (c e : Entry) (es : List Entry) → l ≡ c ∷ e ∷ es
      → LedWith (owes w) e es (drop 1 (phases_of rules play))
  unfolding phases_of
  from_asked (exchanged {w} {c = d} {a} {es = fs} f ok play) c e es h =
      led (owes w) (at (turn w a)) (entry answer a) e fs es (asks w ∷ phases_of rules play) (takes_answer rules w a ok) (play, refl)
      (tail_same (entry command d) c (entry answer a ∷ fs) (e ∷ es) h)

  step_back : (σ : Machine A H S) (e : Entry) (es : List Entry) (play : Follows rules σ (e ∷ es))
      → LedWith σ e es (phases_in σ (e ∷ es) play)
  step_back (at p) e es play = from_phase play e es refl
  step_back (owes w) e es play = from_asked play (entry command (command_of w)) e es refl
  step_back done e es h = absurd (let z : ◌≡◌ {A = ℕ} 0 1 = cc in omega arith)

  -- the phase that stands behind some entries is that of the state to which they take the machine
  phase_at : (es rest : List Entry) (σ τ : Machine A H S) (play : Follows rules σ (es ++ rest)) → run rules es σ ≡ some τ
      → take 1 (drop (length es) (phases_in σ (es ++ rest) play)) ≡ standing τ
  unfolding run and_on
  phase_at [] rest σ τ play h = let same : σ ≡ τ = cc in stands_first σ rest play ∙ ap standing same
  phase_at (e ∷ es) rest σ τ play h =
      let l = step_back σ e (es ++ rest) play in
      let on = sym (ap (and_on (run rules es)) l.1.0) ∙ h in
      ap (take 1) (one_less (length es) (phases_in σ (e ∷ (es ++ rest)) play) ∙ ap (drop (length es)) (sym l.1.1.1))
      ∙ phase_at es rest l.0 τ l.1.1.0 on

  module _ (es rest : List Entry) (τ : Machine A H S) (play : Plays rules opens (es ++ rest)) (h : run rules es (at opens) ≡ some τ) where
    -- what is read of a session that begins so ends with that phase
    read_to : take (length es + 1) (phases_of rules play) ≡ take (length es) (phases_of rules play) ++ standing τ
    read_to =
        take-add (length es) 1 (phases_of rules play)
        ∙ ap (◌++◌ (take (length es) (phases_of rules play))) (phase_at es rest (at opens) τ play h)

  -- the machine stands at a decision: with the DECISION that is due the entries lead there still
  module _ (es : List Entry) (outcome reason : ℕ) (s : S) (h : run rules es (at opens) ≡ some (at (decides outcome reason s))) where
    abbrev whole : List Entry
    whole = es ++ (entry decision (decision_of outcome reason s) ∷ [])

    run_whole : run rules whole (at opens) ≡ some done
    unfolding run and_on
    run_whole =
        run_append rules es (entry decision (decision_of outcome reason s) ∷ []) (at opens)
        ∙ (ap (and_on (run rules (entry decision (decision_of outcome reason s) ∷ []))) h
        ∙ ap (and_on (run rules [])) (takes_decision rules outcome reason s))

    play : Plays rules opens whole
    unfolding Session
    play = joined rules es (entry decision (decision_of outcome reason s) ∷ []) (at (decides outcome reason s)) h (decided refl)

    -- the same, with nothing behind it
    alone : (q : Plays rules opens (whole ++ [])) × (phases_of rules q ≡ phases_of rules play)
    alone =
        subst (λ (l : List Entry). (q : Plays rules opens l) × (phases_of rules q ≡ phases_of rules play))
        (sym (append-nil whole)) (play, refl)

    pub decided_leads : LeadsTo rules whole (decides outcome reason s)
    unfolding LeadsTo Reads standing
    decided_leads =
        let one = length-append es (entry decision (decision_of outcome reason s) ∷ []) in
        let all = read_to whole [] done alone.0 run_whole ∙ append-nil (take (length whole) (phases_of rules alone.0)) in
        let last = read_to es (entry decision (decision_of outcome reason s) ∷ []) (at (decides outcome reason s)) play h in (
          take (length es) (phases_of rules play),
          ([], (alone.0, sym (all ∙ (ap₂ (λ (n : ℕ) (ps : List (Phase A H S)). take n ps) one alone.1 ∙ last)))),
        )

  -- entries lead to one phase at most
  pub leads_once : (es : List Entry) (p q : Phase A H S) → LeadsTo rules es p → LeadsTo rules es q → p ≡ q
  unfolding LeadsTo
  leads_once es p q a b = (snoc_same a.0 b.0 p q (reads_once rules es (a.0 ++ (p ∷ [])) (b.0 ++ (q ∷ [])) a.1 b.1)).1

  -- where entries lead to a phase the machine stands there, or owes an answer to what is asked there, or has ended
  pub leads_run : (es : List Entry) (p : Phase A H S) → LeadsTo rules es p
      → (σ : Machine A H S) × ((run rules es (at opens) ≡ some σ) × ((σ ≡ done) ⊎ (standing σ ≡ p ∷ [])))
  unfolding LeadsTo Reads standing
  leads_run es p l =
      let rest = l.1.0 in
      let play = l.1.1.0 in
      let whole = sym (run_append rules es rest (at opens)) ∙ follows_ends rules (es ++ rest) (at opens) play in
      let t = taken (run rules rest) (run rules es (at opens)) done whole in
      let σ = t.0 in
      (σ, (t.1.0, by_state σ (take (length es) (phases_of rules play)) l.0 (sym (read_to es rest σ play t.1.0) ∙ sym l.1.1.1)))
    where
      by_state : (σ : Machine A H S) (ps qs : List (Phase A H S)) → ps ++ standing σ ≡ qs ++ (p ∷ []) → (σ ≡ done) ⊎ (standing σ ≡ p ∷ [])
      by_state (at q) ps qs e = inr (ap (λ (x : Phase A H S). x ∷ []) (snoc_same ps qs q p e).1)
      by_state (owes w) ps qs e = inr (ap (λ (x : Phase A H S). x ∷ []) (snoc_same ps qs (asks w) p e).1)
      by_state done ps qs e = inl refl

module _ {A H S : Type 0} {rules : Rules A H S} (kept : Kept rules) where
  open rules use {opens}

  -- the machine stands at a phase: the entries lead there
  pub at_leads : (es : List Entry) (p : Phase A H S) → run rules es (at opens) ≡ some (at p) → LeadsTo rules es p
  unfolding LeadsTo Reads Session standing
  at_leads es p h =
      let f = finishes kept p in
      let play = joined rules es f.0 (at p) h f.1 in
      (take (length es) (phases_of rules play), (f.0, (play, sym (read_to rules es f.0 (at p) play h))))

  -- it owes an answer: they lead to the question that was asked
  pub owes_leads : (es : List Entry) (w : A) → run rules es (at opens) ≡ some (owes w) → LeadsTo rules es (asks w)
  unfolding LeadsTo Reads Session standing
  owes_leads es w h =
      let f = to_end kept (owes w) in
      let play = joined rules es f.0 (owes w) h f.1 in
      (take (length es) (phases_of rules play), (f.0, (play, sym (read_to rules es f.0 (owes w) play h))))
