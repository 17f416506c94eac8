-- Each list of entries is exactly one of: a session, open, neither. Where the machine reads it to the last entry, its state says which;
-- where it refuses one, only a closing silence leaves the list open, and that is seen by the last entry and the state before it.
-- Assumes nothing.
use mathlib.Core.Path.{◌≡◌, refl, sym, ap, ◌∙◌}
use mathlib.Core.List.{List, [], ◌∷◌, ◌++◌}
use mathlib.Core.Logic.{inl, inr, ⊎_elim}
use mathlib.Core.Option.{Option, none, some}
use Prim.Native.Nat.{ℕ}
use native.Mathlib.Omega.{arith}
use lib.Dec.{eqb}
use borrow.Author.Tests.{eqb-true, eqb-false}
use Rattle.slices.proofs.Choice.{either}
use Rattle.numbers.specs.Tables.{silence}
use Rattle.tape_read.specs.Entries.{Entry, entry}
use Rattle.sessions.specs.Rules.{Rules}
use Rattle.sessions.specs.Session.{Session, Beginning, Closed, Open}
use Rattle.sessions.specs.Kept.{Kept}
use Rattle.sessions.specs.Stated.{Sort, finished, unfinished, neither}
use Rattle.sessions.specs.Machine.{Machine, at, owes, done, run}
use Rattle.sessions.proofs.Lists.{snoc_same, Last, no_entry, last, last_of}
use Rattle.sessions.proofs.Running.{no_state, session_run, run_session}
use Rattle.sessions.proofs.Reading.{beginning_run, awaits_run, not_both, not_closed}
use Rattle.sessions.proofs.Sorting.{run_beginning, run_awaits}

module _ {A H S : Type 0} {rules : Rules A H S} (kept : Kept rules) where
  open rules use {opens, after}

  module _ (es : List Entry) where
    -- where the machine stopped, only a closing silence leaves the list open
    module _ (stopped : run rules es (at opens) ≡ none) where
      not_session : Session rules es → ⊥
      not_session play = no_state done (sym stopped ∙ session_run rules es play)

      not_beginning : Beginning rules es → ⊥
      not_beginning b = let r = beginning_run rules es b in no_state r.0 (sym stopped ∙ r.1.0)

      not_open : (Closed rules es → ⊥) → Open rules es → ⊥
      unfolding Open
      not_open c o = ⊎_elim not_beginning c o

      module _ (before : List Entry) (e : Entry) (h : es ≡ before ++ (e ∷ [])) where
        -- a closing silence is the last entry, after a command that is owed an answer
        silent : Closed rules es → (e ≡ entry silence []) × ((w : A) × (run rules before (at opens) ≡ some (owes w)))
        unfolding Closed
        silent c =
            let same = snoc_same c.0 before (entry silence []) e (sym c.1.1 ∙ h) in
            let w = awaits_run kept c.0 c.1.0 in
            (sym same.1, (w.0, ap (λ (l : List Entry). run rules l (at opens)) (sym same.0) ∙ w.1))

        broken : (Closed rules es → ⊥) → Sort rules es
        broken c = neither not_session (not_open c)

        by_state : e ≡ entry silence [] → (o : Option (Machine A H S)) → run rules before (at opens) ≡ o → Sort rules es
        unfolding Open Closed
        by_state s (some (owes w)) r =
            unfinished (inr (before, (run_awaits kept before w r, h ∙ ap (λ (x : Entry). before ++ (x ∷ [])) s)))
        by_state s (some (at p)) r = broken (λ c. let w = (silent c).1 in let z : ◌≡◌ {A = ℕ} 0 1 = cc (r, w.1) in omega arith)
        by_state s (some done) r = broken (λ c. let w = (silent c).1 in let z : ◌≡◌ {A = ℕ} 0 1 = cc (r, w.1) in omega arith)
        by_state s none r = broken (λ c. let w = (silent c).1 in let z : ◌≡◌ {A = ℕ} 0 1 = cc (r, w.1) in omega arith)

        by_last : (p : List ℕ) → e.payload ≡ p → Sort rules es
        by_last [] q =
            either (eqb e.kind silence)
            (λ y. by_state (ap (λ (n : ℕ). entry n e.payload) (eqb-true e.kind silence y) ∙ ap (entry silence) q)
            (run rules before (at opens)) refl)
            (λ n. broken (λ c. eqb-false e.kind silence n (ap (λ (x : Entry). x.kind) (silent c).0)))
        by_last (b ∷ p) q =
            broken (λ c. let none_left : b ∷ p ≡ [] = sym q ∙ ap (λ (x : Entry). x.payload) (silent c).0 in
            let z : ◌≡◌ {A = ℕ} 0 1 = cc in omega arith)

      by_end : Last es → Sort rules es
      unfolding run
      by_end (no_entry e) = absurd (no_state (at opens) (sym stopped ∙ ap (λ (l : List Entry). run rules l (at opens)) e))
      by_end (last before e h) = by_last before e h e.payload refl

    by_run : (o : Option (Machine A H S)) → run rules es (at opens) ≡ o → Sort rules es
    unfolding Open
    by_run (some done) h = finished (run_session rules es h)
    by_run (some (at p)) h = unfinished (inl (run_beginning kept es (at p) h (λ e. let z : ◌≡◌ {A = ℕ} 0 1 = cc in omega arith)))
    by_run (some (owes w)) h = unfinished (inl (run_beginning kept es (owes w) h (λ e. let z : ◌≡◌ {A = ℕ} 0 1 = cc in omega arith)))
    by_run none h = by_end h (last_of es)

    -- one of the three
    pub sorted : Sort rules es
    sorted = by_run (run rules es (at opens)) refl

  -- and no other
  pub one_sort : (es : List Entry) → Session rules es → Open rules es → ⊥
  unfolding Open
  one_sort es play o = ⊎_elim (not_both rules es play) (not_closed kept es play) o
