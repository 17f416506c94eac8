-- An entry may follow where the machine takes it, and where it is a closing silence after a command; and these are the entries that fit
-- what is due in the machine's state.
-- Assumes nothing.
use mathlib.Core.Path.{◌≡◌, refl, sym, ap, ◌∙◌, subst}
use mathlib.Core.List.{List, [], ◌∷◌, ◌++◌, append_assoc}
use mathlib.Core.Logic.{inl, inr, ⊎_elim}
use mathlib.Core.Option.{Option, none, some}
use Prim.Native.Nat.{ℕ}
use Rattle.slices.specs.Tests.{alike}
use Rattle.slices.proofs.Comparing.{alike_same}
use Rattle.numbers.specs.Tables.{command, answer, silence, decision}
use Rattle.tape_read.specs.Entries.{Entry, entry}
use Rattle.sessions.specs.Rules.{asks, hears, decides, Rules}
use Rattle.sessions.specs.Session.{is_payload, Session, Beginning, Closed, Open, Lawful}
use Rattle.sessions.specs.Kept.{Kept}
use Rattle.sessions.specs.Machine.{Machine, at, owes, done, due, sayable, next, run}
use Rattle.sessions.proofs.Lists.{snoc_same}
use Rattle.sessions.proofs.Running.{due_entry, due_test, no_state, chosen, taken, said_allowed, said_payload}
use Rattle.sessions.proofs.Running.{takes_command, takes_answer, takes_heard, takes_decision, session_run}
use Rattle.sessions.proofs.Reading.{run_append, beginning_run, awaits_run}
use Rattle.sessions.proofs.States.{state_lawful, silence_closes, state_next}
use Rattle.due_under.specs.Due.{Due, Fits}
use Rattle.due_under.specs.After.{due_at, due_in, due_after}
use Rattle.due_under.specs.Theorem.{with_one}

module _ {A H S : Type 0} {rules : Rules A H S} (kept : Kept rules) where
  open rules use {opens, command_of, turn, due_kind, after, decision_of}

  -- ---- what the machine takes is what fits

  kind_of_lem : (k : ℕ) (e : Entry) → e ≡ entry k e.payload → e.kind ≡ k
  kind_of_lem k e h = ap (λ (x : Entry). x.kind) h

  taken_fits : (σ τ : Machine A H S) (e : Entry) → next rules σ e ≡ some τ → Fits rules (due_at rules σ) e
  unfolding next due_at Fits
  taken_fits (at (asks w)) τ e n =
      let c = chosen (due command (alike e.payload (command_of w)) e) (some (owes w)) τ n in
      due_entry command _ e c.0 ∙ ap (entry command) (alike_same e.payload (command_of w) (due_test command _ e c.0))
  taken_fits (at (hears h)) τ e n =
      let c = chosen (due (due_kind h) (sayable rules h e.payload) e) (some (at (after h e.payload))) τ n in
      let said = due_test (due_kind h) _ e c.0 in
      (kind_of_lem (due_kind h) e (due_entry (due_kind h) _ e c.0), (said_allowed rules h _ said, said_payload rules h _ said))
  taken_fits (at (decides outcome reason s)) τ e n =
      let c = chosen (due decision (alike e.payload (decision_of outcome reason s)) e) (some done) τ n in
      due_entry decision _ e c.0
      ∙ ap (entry decision) (alike_same e.payload (decision_of outcome reason s) (due_test decision _ e c.0))
  taken_fits (owes w) τ e n =
      let c = chosen (due answer (is_payload e.payload) e) (some (at (turn w e.payload))) τ n in
      inl (kind_of_lem answer e (due_entry answer _ e c.0), due_test answer _ e c.0)
  taken_fits done τ e n = absurd (no_state τ n)

  -- an entry under the name of its kind
  as_kind : (k : ℕ) (e : Entry) → e.kind ≡ k → entry k e.payload ≡ e
  as_kind k e h = ap (λ (n : ℕ). entry n e.payload) (sym h)

  module _ (es : List Entry) (e : Entry) where
    takes : (σ τ : Machine A H S) (x : Entry) → run rules es (at opens) ≡ some σ → next rules σ x ≡ some τ → x ≡ e
        → Lawful rules (with_one es e)
    takes σ τ x h n same =
        subst (λ (y : Entry). Lawful rules (with_one es y)) same (state_lawful kept (with_one es x) τ (state_next kept es σ x h τ n))

    fits_may : (σ : Machine A H S) → run rules es (at opens) ≡ some σ → Fits rules (due_at rules σ) e → Lawful rules (with_one es e)
    unfolding Lawful Open due_at Fits
    fits_may (at (asks w)) h f = takes (at (asks w)) (owes w) (entry command (command_of w)) h (takes_command rules w) (sym f)
    fits_may (at (hears x)) h f =
        takes (at (hears x)) (at (after x e.payload)) (entry (due_kind x) e.payload) h
        (takes_heard rules x e.payload f.1.0 f.1.1)
        (as_kind (due_kind x) e f.0)
    fits_may (at (decides outcome reason s)) h f =
        takes (at (decides outcome reason s)) done (entry decision (decision_of outcome reason s)) h
        (takes_decision rules outcome reason s) (sym f)
    fits_may (owes w) h f =
        ⊎_elim
        (λ a.
        takes (owes w) (at (turn w e.payload)) (entry answer e.payload) h (takes_answer rules w e.payload a.1)
        (as_kind answer e a.0))
        (λ s. subst (λ (y : Entry). Lawful rules (with_one es y)) (sym s) (inr (inr (silence_closes kept es w h))))
        f
    fits_may done h f = absurd f

    -- ---- an entry that may follow

    run_fits : (τ : Machine A H S) → run rules (with_one es e) (at opens) ≡ some τ → Fits rules (due_after rules es) e
    unfolding due_after due_in run
    run_fits τ h =
        let t = taken (run rules (e ∷ [])) (run rules es (at opens)) τ (sym (run_append rules es (e ∷ []) (at opens)) ∙ h) in
        let n = taken (run rules []) (next rules t.0 e) τ t.1.1 in
        subst (λ (d : Due H). Fits rules d e) (sym (ap (due_in rules) t.1.0)) (taken_fits t.0 n.0 e n.1.0)

    closed_fits : Closed rules (with_one es e) → Fits rules (due_after rules es) e
    unfolding Closed due_after due_in due_at Fits
    closed_fits c =
        let same = snoc_same c.0 es (entry silence []) e (sym c.1.1) in
        let w = awaits_run kept c.0 c.1.0 in
        let there : run rules es (at opens) ≡ some (owes w.0) = ap (λ (l : List Entry). run rules l (at opens)) (sym same.0) ∙ w.1 in
        subst (λ (d : Due H). Fits rules d e) (sym (ap (due_in rules) there)) (inr (sym same.1))

    pub may_fits : Lawful rules (with_one es e) → Fits rules (due_after rules es) e
    unfolding Lawful Open
    may_fits l =
        ⊎_elim (λ s. run_fits done (session_run rules (with_one es e) s))
        (λ o. ⊎_elim (λ b. let r = beginning_run rules (with_one es e) b in run_fits r.0 r.1.0) closed_fits o)
        l

    by_state : (o : Option (Machine A H S)) → run rules es (at opens) ≡ o → Fits rules (due_in rules o) e → Lawful rules (with_one es e)
    unfolding due_in Fits
    by_state none h f = absurd f
    by_state (some σ) h f = fits_may σ h f

    pub fits_follows : Fits rules (due_after rules es) e → Lawful rules (with_one es e)
    unfolding due_after
    fits_follows f = by_state (run rules es (at opens)) refl f

  -- ---- some entry does, where something is left to come

  first_of : (es : List Entry) (e : Entry) (rest : List Entry) → Session rules (es ++ (e ∷ rest)) → Lawful rules (with_one es e)
  unfolding Lawful Open Beginning
  first_of es e [] s = inl s
  first_of es e (f ∷ rest) s = inr (inl (f, (rest, subst (Session rules) (sym (append_assoc es (e ∷ []) (f ∷ rest))) s)))

  pub something : (es : List Entry) → Beginning rules es → (e : Entry) × Fits rules (due_after rules es) e
  unfolding Beginning
  something es b = (b.0, may_fits es b.0 (first_of es b.0 b.1.0 b.1.1))
