-- What the machine finds due is what the sessions say: where it stands says which phase the entries lead to, whether the card is waited
-- for and whether anything is left to come, and the other way round.
-- Assumes nothing.
use mathlib.Core.Path.{◌≡◌, refl, sym, ap, ◌∙◌}
use mathlib.Core.List.{List, [], ◌∷◌}
use mathlib.Core.Logic.{inl, inr, ⊎_elim}
use mathlib.Core.Option.{Option, none, some}
use Prim.Native.Nat.{ℕ}
use native.Mathlib.Omega.{arith}
use Rattle.tape_read.specs.Entries.{Entry}
use Rattle.sessions.specs.Rules.{Phase, asks, hears, decides, Rules}
use Rattle.sessions.specs.Session.{Beginning, AwaitsCard, Open, Lawful}
use Rattle.sessions.specs.Kept.{Kept}
use Rattle.sessions.specs.Machine.{Machine, at, owes, done, run}
use Rattle.sessions.proofs.Running.{no_state, run_session}
use Rattle.sessions.proofs.Reading.{beginning_run, awaits_run, not_both}
use Rattle.sessions.proofs.Sorting.{run_beginning, run_awaits}
use Rattle.sessions.proofs.Leading.{standing, at_leads, leads_run}
use Rattle.due_under.specs.Due.{Due, asking, answering, saying, deciding, nothing}
use Rattle.due_under.specs.After.{StandsIn, DueAfter, command_due_lem, answer_due, word_due_lem, decision_due_lem, nothing_due}
use Rattle.due_under.specs.After.{due_at, due_in, due_after}

module _ {A H S : Type 0} where
  at_not_owes : {X : Type 0} (p : Phase A H S) (w : A) → some (at p) ≡ some (owes w) → X
  at_not_owes p w e = absurd (let z : ◌≡◌ {A = ℕ} 0 1 = cc in omega arith)

module _ {A H S : Type 0} {rules : Rules A H S} (kept : Kept rules) where
  open rules use {opens}

  module _ (es : List Entry) where
    module _ (p : Phase A H S) (h : run rules es (at opens) ≡ some (at p)) where
      pub at_begins : Beginning rules es
      at_begins = run_beginning kept es (at p) h (λ e. let z : ◌≡◌ {A = ℕ} 0 1 = cc in omega arith)

      stands : StandsIn rules es p
      unfolding StandsIn
      stands = (at_begins, at_leads kept es p h)

      not_waiting : AwaitsCard rules es → ⊥
      not_waiting a = let w = awaits_run kept es a in at_not_owes p w.0 (sym h ∙ w.1)

    owes_begins : (w : A) → run rules es (at opens) ≡ some (owes w) → Beginning rules es
    owes_begins w h = run_beginning kept es (owes w) h (λ e. let z : ◌≡◌ {A = ℕ} 0 1 = cc in omega arith)

    by_state : (o : Option (Machine A H S)) → run rules es (at opens) ≡ o → DueAfter rules es (due_in rules o)
    unfolding due_in due_at
    by_state (some (at (asks w))) h = command_due_lem w refl (stands (asks w) h) (not_waiting (asks w) h)
    by_state (some (at (hears x))) h = word_due_lem (stands (hears x) h)
    by_state (some (at (decides outcome reason s))) h = decision_due_lem outcome reason s refl (stands (decides outcome reason s) h)
    by_state (some (owes w)) h = answer_due (run_awaits kept es w h)
    by_state (some done) h = nothing_due (not_both rules es (run_session rules es h))
    by_state none h = nothing_due (λ b. let r = beginning_run rules es b in no_state r.0 (sym h ∙ r.1.0))

    -- what is found is what the sessions say
    pub found : DueAfter rules es (due_after rules es)
    unfolding due_after
    found = by_state (run rules es (at opens)) refl

    -- an unfinished beginning in a phase: the machine is at it, or the card owes it an answer
    in_phase : (p : Phase A H S) → StandsIn rules es p → (σ : Machine A H S) × ((run rules es (at opens) ≡ some σ) × (standing σ ≡ p ∷ []))
    unfolding StandsIn
    in_phase p s =
        let l = leads_run rules es p s.1 in
        let b = beginning_run rules es s.0 in
        let same : some b.0 ≡ some l.0 = sym b.1.0 ∙ l.1.0 in
        (l.0, (l.1.0, ⊎_elim (λ e. absurd (b.1.1 (cc (same, e)))) (λ e. e) l.1.1))

    -- what is due in a state, where its phase is known
    module _ (p : Phase A H S) where
      asked_there : (σ : Machine A H S) → run rules es (at opens) ≡ some σ → standing σ ≡ p ∷ [] → ((w : A) → σ ≡ owes w → p ≡ asks w → ⊥)
          → σ ≡ at p
      unfolding standing
      asked_there (at q) h e other = let same : q ≡ p = cc in ap at same
      asked_there (owes w) h e other = let same : p ≡ asks w = cc in absurd (other w refl same)
      asked_there done h e other = absurd (let z : ◌≡◌ {A = ℕ} 0 1 = cc in omega arith)

      phase_due : StandsIn rules es p → ((w : A) → run rules es (at opens) ≡ some (owes w) → p ≡ asks w → ⊥)
          → due_after rules es ≡ due_at rules (at p)
      unfolding due_after due_in
      phase_due s other =
          let f = in_phase p s in
          let there = asked_there f.0 f.1.0 f.1.1 (λ w e q. other w (f.1.0 ∙ ap some e) q) in
          ap (due_in rules) (f.1.0 ∙ ap some there)

    over : (Beginning rules es → ⊥) → (o : Option (Machine A H S)) → run rules es (at opens) ≡ o → due_in rules o ≡ nothing
    unfolding due_in due_at
    over never (some (at p)) h = absurd (never (at_begins p h))
    over never (some (owes w)) h = absurd (never (owes_begins w h))
    over never (some done) h = refl
    over never none h = refl

    -- where nothing is left to come nothing is due
    pub none_due : (Beginning rules es → ⊥) → due_after rules es ≡ nothing
    unfolding due_after
    none_due never = over never (run rules es (at opens)) refl

    -- nor where the rules are broken
    pub unlawful_due : (Lawful rules es → ⊥) → due_after rules es ≡ nothing
    unfolding Lawful Open
    unlawful_due never = none_due (λ b. never (inr (inl b)))

    -- and what the sessions say is found
    pub only : (d : Due H) → DueAfter rules es d → due_after rules es ≡ d
    unfolding due_at due_after due_in
    only (asking c) (command_due_lem w f s never) =
        phase_due (asks w) s (λ v h e. never (run_awaits kept es v h)) ∙ ap asking (sym f)
    only answering (answer_due a) = let w = awaits_run kept es a in ap (due_in rules) w.1
    only (saying h) (word_due_lem s) = phase_due (hears h) s (λ w r e. let z : ◌≡◌ {A = ℕ} 0 1 = cc in omega arith)
    only (deciding d) (decision_due_lem outcome reason z f s) =
        phase_due (decides outcome reason z) s (λ w r e. let k : ◌≡◌ {A = ℕ} 0 1 = cc in omega arith) ∙ ap deciding (sym f)
    only nothing (nothing_due never) = none_due never
