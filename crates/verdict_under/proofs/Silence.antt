-- What a silence does to a tape: one without payload, where the card owes an answer, leaves it inconclusive; any other breaks the rules
-- there, since no state of the machine takes a silence.
-- Assumes nothing.
use mathlib.Core.Path.{◌≡◌, refl, sym, ap, ◌∙◌}
use mathlib.Core.List.{List, [], ◌∷◌, ◌++◌}
use mathlib.Core.Logic.{inl, inr, ⊎_elim}
use mathlib.Core.Option.{none, some}
use Prim.Native.Nat.{ℕ, ◌+◌}
use native.Mathlib.Omega.{arith}
use lib.ListN.{length, length-append}
use Rattle.slices.proofs.Choice.{pick_no}
use Rattle.numbers.specs.Tables.{answer, silence, host, results}
use Rattle.tape_read.specs.Entries.{Entry, entry}
use Rattle.sessions.specs.Rules.{Phase, hears, Rules}
use Rattle.sessions.specs.Session.{Session, Beginning, AwaitsCard, Closed, Open, Lawful}
use Rattle.sessions.specs.Kept.{Kept}
use Rattle.sessions.specs.Machine.{Machine, at, owes, done, due, sayable, next, run}
use Rattle.sessions.proofs.Running.{chosen, taken, no_state, session_run}
use Rattle.sessions.proofs.Reading.{run_append, beginning_run, awaits_run, silence_refused}
use Rattle.sessions.proofs.Sorting.{run_awaits}
use Rattle.sessions.proofs.Breaks.{begins_empty, after_session, after_closed}
use Rattle.sessions.proofs.States.{refused_breaks}
use Rattle.verdict.specs.Saying.{says}
use Rattle.verdict_under.specs.Judged.{JudgesUnder, undecided}
use Rattle.verdict.specs.declared.Verdict.TheVariants.{Fail, Inconclusive}
use Rattle.verdict_under.proofs.Taking.{not_due}
use Rattle.verdict_under.proofs.Endings.{one_too_many}

module _ {A H S : Type 0} {rules : Rules A H S} (kept : Kept rules) where
  open rules use {opens, due_kind}

  -- one closing silence, where the card's answer is awaited; it is counted
  pub closing_silence : (es : List Entry) → AwaitsCard rules es
      → JudgesUnder rules (es ++ (entry silence [] ∷ [])) (says Inconclusive (length es + 1) 0)
  unfolding Open Closed
  closing_silence es a =
      undecided (inr (es, (a, refl))) (ap (λ (n : ℕ). says Inconclusive n 0) (sym (length-append es (entry silence [] ∷ []))))

  -- ---- any other silence

  module _ (es : List Entry) (p : List ℕ) (more : List Entry) where
    -- it fails there, unless it has no payload and the card's answer is awaited
    pub silence_fails : Lawful rules es → (p ≡ [] → AwaitsCard rules es → ⊥)
        → JudgesUnder rules (es ++ (entry silence p ∷ more)) (says Fail (length es) 0)
    unfolding Lawful Open
    silence_fails l other =
        one_too_many kept es (entry silence p) more l
        (⊎_elim (after_session kept es (entry silence p) [])
        (λ o.
        ⊎_elim
        (λ b.
        let r = beginning_run rules es b in
        refused_breaks kept es r.0 (entry silence p) r.1.0 (silence_refused kept r.0 p)
        (λ w there silent. other (ap (λ (x : Entry). x.payload) silent) (run_awaits kept es w (r.1.0 ∙ ap some there))))
        (after_closed kept es (entry silence p) [])
        o)
        l)

  -- with a payload, wherever
  pub silence_with_payload : (es : List Entry) (b : ℕ) (p : List ℕ) (more : List Entry) → Lawful rules es
      → JudgesUnder rules (es ++ (entry silence (b ∷ p) ∷ more)) (says Fail (length es) 0)
  silence_with_payload es b p more l = silence_fails es (b ∷ p) more l (λ e a. let z : ◌≡◌ {A = ℕ} 0 1 = cc in omega arith)

  -- at the beginning
  pub silence_first : (p : List ℕ) (more : List Entry) → JudgesUnder rules (entry silence p ∷ more) (says Fail 0 0)
  unfolding Lawful Open run
  silence_first p more =
      silence_fails [] p more (inr (inl (begins_empty kept)))
      (λ e a. let w = awaits_run kept [] a in let z : ◌≡◌ {A = ℕ} 0 1 = cc w.1 in omega arith)

  -- right after START, before any command: the rules open with a word
  module _ (x : H) (word : opens ≡ hears x) (e : Entry) where
    word_not_awaited : AwaitsCard rules (e ∷ []) → ⊥
    unfolding run next
    word_not_awaited a =
        let w = awaits_run kept (e ∷ []) a in
        let t = taken (run rules []) (next rules (at opens) e) (owes w.0) w.1 in
        let there : next rules (at (hears x)) e ≡ some (owes w.0)
        = ap (λ (q : Phase A H S). next rules (at q) e) (sym word) ∙ (t.1.0 ∙ t.1.1) in
        let c = (chosen (due (due_kind x) (sayable rules x e.payload) e) _ (owes w.0) there).1 in
        let z : ◌≡◌ {A = ℕ} 0 1 = cc in
        omega arith

    pub silence_after_start : (p : List ℕ) (more : List Entry) → Beginning rules (e ∷ [])
        → JudgesUnder rules (e ∷ entry silence p ∷ more) (says Fail 1 0)
    unfolding Lawful Open
    silence_after_start p more begins = silence_fails (e ∷ []) p more (inr (inl begins)) (λ same a. word_not_awaited a)

  -- where any other entry than the card's answer is due: what somebody else says, or the kernel's own
  module _ (k : ℕ) (said : List ℕ) (other : k ≡ answer → ⊥) where
    no_answer : (w : A) → next rules (owes w) (entry k said) ≡ none
    unfolding next
    no_answer w = pick_no _ _ _ (not_due answer k _ said other)

    module _ (es rest : List Entry) (s : Session rules (es ++ (entry k said ∷ rest))) where
      not_awaited : AwaitsCard rules es → ⊥
      unfolding run
      not_awaited a =
          let w = awaits_run kept es a in
          let t = taken (run rules (entry k said ∷ rest)) (run rules es (at opens)) done
          (sym (run_append rules es (entry k said ∷ rest) (at opens))
          ∙ session_run rules _ s) in
          let n = taken (run rules rest) (next rules t.0 (entry k said)) done t.1.1 in
          let here : t.0 ≡ owes w.0 = cc (t.1.0, w.1) in
          no_state n.0 (sym (no_answer w.0) ∙ (ap (λ (σ : Machine A H S). next rules σ (entry k said)) (sym here) ∙ n.1.0))

      pub silence_for_other : (p : List ℕ) (more : List Entry)
          → JudgesUnder rules (es ++ (entry silence p ∷ more)) (says Fail (length es) 0)
      unfolding Lawful Open Beginning
      silence_for_other p more = silence_fails es p more (inr (inl (entry k said, (rest, s)))) (λ e a. not_awaited a)

  -- the issuer's reply
  pub silence_for_host : (es : List Entry) (h : List ℕ) (rest : List Entry) (p : List ℕ) (more : List Entry)
      → Session rules (es ++ (entry host h ∷ rest))
      → JudgesUnder rules (es ++ (entry silence p ∷ more)) (says Fail (length es) 0)
  silence_for_host es h rest p more s = silence_for_other host h (λ e. omega arith) es rest s p more

  -- the results of cardholder verification (02, R-7)
  pub silence_for_results : (es : List Entry) (r : List ℕ) (rest : List Entry) (p : List ℕ) (more : List Entry)
      → Session rules (es ++ (entry results r ∷ rest))
      → JudgesUnder rules (es ++ (entry silence p ∷ more)) (says Fail (length es) 0)
  silence_for_results es r rest p more s = silence_for_other results r (λ e. omega arith) es rest s p more
