-- What the state of the machine says of the list that it has read, for a reader that goes entry by entry: while there is a state the
-- list is lawful; where an entry is refused the list is broken, unless that entry is a closing silence.
-- Assumes nothing.
use mathlib.Core.Path.{◌≡◌, refl, sym, ap, ◌∙◌}
use mathlib.Core.List.{List, [], ◌∷◌, ◌++◌}
use mathlib.Core.Logic.{inl, inr, ⊎_elim}
use mathlib.Core.Option.{none, some}
use Prim.Native.Nat.{ℕ}
use native.Mathlib.Omega.{arith}
use Rattle.numbers.specs.Tables.{silence}
use Rattle.tape_read.specs.Entries.{Entry, entry}
use Rattle.sessions.specs.Rules.{Rules}
use Rattle.sessions.specs.Session.{Closed, Open, Lawful}
use Rattle.sessions.specs.Kept.{Kept}
use Rattle.sessions.specs.Machine.{Machine, at, owes, done, and_on, next, run}
use Rattle.sessions.proofs.Running.{no_state, session_run, run_session}
use Rattle.sessions.proofs.Reading.{run_append, beginning_run, awaits_run}
use Rattle.sessions.proofs.Sorting.{run_beginning, run_awaits}
use Rattle.sessions.proofs.Lists.{snoc_same}

module _ {A H S : Type 0} {rules : Rules A H S} (kept : Kept rules) where
  open rules use {opens, due_kind, after}

  module _ (es : List Entry) where
    pub state_lawful : (σ : Machine A H S) → run rules es (at opens) ≡ some σ → Lawful rules es
    unfolding Lawful Open
    state_lawful done h = inl (run_session rules es h)
    state_lawful (at p) h = inr (inl (run_beginning kept es (at p) h (λ e. let z : ◌≡◌ {A = ℕ} 0 1 = cc in omega arith)))
    state_lawful (owes w) h = inr (inl (run_beginning kept es (owes w) h (λ e. let z : ◌≡◌ {A = ℕ} 0 1 = cc in omega arith)))

    pub silence_closes : (w : A) → run rules es (at opens) ≡ some (owes w) → Closed rules (es ++ (entry silence [] ∷ []))
    unfolding Closed
    silence_closes w h = (es, (run_awaits kept es w h, refl))

    -- the machine stops at an entry that is no silence
    pub stopped_breaks : (e : Entry) → run rules (es ++ (e ∷ [])) (at opens) ≡ none → (e ≡ entry silence [] → ⊥)
        → Lawful rules (es ++ (e ∷ [])) → ⊥
    unfolding Lawful Open Closed
    stopped_breaks e stopped other l =
        ⊎_elim (λ s. no_state done (sym stopped ∙ session_run rules _ s))
        (λ o.
        ⊎_elim (λ b. let r = beginning_run rules _ b in no_state r.0 (sym stopped ∙ r.1.0))
        (λ c. other (sym (snoc_same c.0 es (entry silence []) e (sym c.1.1)).1))
        o)
        l

    module _ (σ : Machine A H S) (e : Entry) (h : run rules es (at opens) ≡ some σ) where
      abbrev longer : List Entry
      longer = es ++ (e ∷ [])

      pub state_next : (τ : Machine A H S) → next rules σ e ≡ some τ → run rules longer (at opens) ≡ some τ
      unfolding run and_on
      state_next τ n = run_append rules es (e ∷ []) (at opens) ∙ (ap (and_on (run rules (e ∷ []))) h ∙ ap (and_on (run rules [])) n)

      state_none : next rules σ e ≡ none → run rules longer (at opens) ≡ none
      unfolding run and_on
      state_none n = run_append rules es (e ∷ []) (at opens) ∙ (ap (and_on (run rules (e ∷ []))) h ∙ ap (and_on (run rules [])) n)

      -- a closing silence, after a command that is owed an answer
      closing : Closed rules longer → (w : A) × ((σ ≡ owes w) × (e ≡ entry silence []))
      unfolding Closed
      closing c =
          let same = snoc_same c.0 es (entry silence []) e (sym c.1.1) in
          let w = awaits_run kept c.0 c.1.0 in
          let there : some σ ≡ some (owes w.0) = sym h ∙ (ap (λ (l : List Entry). run rules l (at opens)) (sym same.0) ∙ w.1) in
          (w.0, (cc, sym same.1))

      pub refused_breaks : next rules σ e ≡ none → ((w : A) → σ ≡ owes w → e ≡ entry silence [] → ⊥) → Lawful rules longer → ⊥
      unfolding Lawful Open
      refused_breaks n other l =
          let stopped = state_none n in
          ⊎_elim (λ s. no_state done (sym stopped ∙ session_run rules longer s))
          (λ o.
          ⊎_elim (λ b. let r = beginning_run rules longer b in no_state r.0 (sym stopped ∙ r.1.0))
          (λ c. let w = closing c in other w.0 w.1.0 w.1.1)
          o)
          l
