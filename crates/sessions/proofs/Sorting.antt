-- The other way round: since every phase can be finished, whatever the machine reads without ending is an unfinished beginning, and
-- a command that is owed an answer waits for the card.
-- Assumes nothing.
use mathlib.Core.Path.{◌≡◌, refl, ap, ◌∙◌, subst}
use mathlib.Core.List.{List, [], ◌∷◌, ◌++◌}
use mathlib.Core.Option.{some}
use Prim.Native.Nat.{ℕ}
use native.Mathlib.Omega.{arith}
use Rattle.numbers.specs.Tables.{command, answer}
use Rattle.tape_read.specs.Entries.{Entry, entry}
use Rattle.slices.specs.Tests.{alike}
use Rattle.sessions.specs.Rules.{asks, Rules}
use Rattle.sessions.specs.Session.{is_payload, Session, Beginning, AwaitsCard}
use Rattle.sessions.specs.Stated.{Finished}
use Rattle.sessions.specs.Kept.{Kept}
use Rattle.sessions.specs.Machine.{Machine, at, owes, done, due, and_on, next, run}
use Rattle.sessions.proofs.Running.{due_entry, chosen, Follows, follows_from, Led, step_back, no_play, at_end_lem}
use Rattle.sessions.proofs.Running.{follows_ends, run_session}
use Rattle.sessions.proofs.Reading.{run_append}
use Rattle.sessions.proofs.Ends.{finishes}

module _ {A H S : Type 0} (rules : Rules A H S) where
  open rules use {opens, command_of, turn, after}

  -- after its command the card owes an answer
  owed : (w : A) (e : Entry) (es : List Entry) → Led rules (at (asks w)) e es → Follows rules (owes w) es
  unfolding next
  owed w e es l =
      let c = chosen (due command (alike e.payload (command_of w)) e) (some (owes w)) l.0 l.1.0 in
      follows_from rules l.0 (owes w) es (cc c.1) l.1.1

  not_empty : {σ : Machine A H S} → (σ ≡ done → ⊥) → Follows rules σ [] → ⊥
  not_empty {σ} h play = h (at_end_lem rules σ play)

  -- what follows the state after some entries makes them a session
  pub joined : (es rest : List Entry) (σ : Machine A H S) → run rules es (at opens) ≡ some σ → Follows rules σ rest
      → Session rules (es ++ rest)
  unfolding and_on
  joined es rest σ h play =
      run_session rules (es ++ rest)
      (run_append rules es rest (at opens) ∙ (ap (and_on (run rules rest)) h ∙ follows_ends rules rest σ play))

  answered : (w : A) (e : Entry) (es : List Entry) → Led rules (owes w) e es → e ≡ entry answer e.payload
  unfolding next
  answered w e es l =
      due_entry answer _ e (chosen (due answer (is_payload e.payload) e) (some (at (turn w e.payload))) l.0 l.1.0).0

module _ {A H S : Type 0} {rules : Rules A H S} (kept : Kept rules) where
  open rules use {opens}

  after_command : (w : A) (f : Finished rules (asks w)) → (rest : List Entry) × Follows rules (owes w) rest
  after_command w f = split f.0 f.1
    where
      split : (es : List Entry) → Follows rules (at (asks w)) es → (rest : List Entry) × Follows rules (owes w) rest
      split [] play = absurd (no_play rules play refl)
      split (e ∷ es) play = (es, owed rules w e es (step_back rules (at (asks w)) e es play))

  -- what leads from a state to the end
  pub to_end : (σ : Machine A H S) → (rest : List Entry) × Follows rules σ rest
  to_end (at p) = finishes kept p
  to_end (owes w) = after_command w (finishes kept (asks w))
  to_end done = ([], refl)

  pub run_beginning : (es : List Entry) (σ : Machine A H S) → run rules es (at opens) ≡ some σ → (σ ≡ done → ⊥) → Beginning rules es
  unfolding Beginning
  run_beginning es σ h before = split (to_end σ).0 (to_end σ).1
    where
      split : (rest : List Entry) → Follows rules σ rest → Beginning rules es
      split [] play = absurd (not_empty rules before play)
      split (e ∷ rest) play = (e, (rest, joined rules es (e ∷ rest) σ h play))

  pub run_awaits : (es : List Entry) (w : A) → run rules es (at opens) ≡ some (owes w) → AwaitsCard rules es
  unfolding AwaitsCard
  run_awaits es w h = split (to_end (owes w)).0 (to_end (owes w)).1
    where
      not_done : ◌≡◌ {A = Machine A H S} (owes w) done → ⊥
      not_done e = let z : ◌≡◌ {A = ℕ} 0 1 = cc in omega arith

      split : (rest : List Entry) → Follows rules (owes w) rest → AwaitsCard rules es
      split [] play = absurd (not_empty rules not_done play)
      split (e ∷ rest) play =
          let a = answered rules w e rest (step_back rules (owes w) e rest play) in
          (e.payload, (rest, subst (λ (x : Entry). Session rules (es ++ (x ∷ rest))) a (joined rules es (e ∷ rest) (owes w) h play)))
