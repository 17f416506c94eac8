-- A list of entries is a session exactly where the machine that reads one entry at a time ends on it: the first entry of what plays from
-- a phase is the one that the machine takes there, and what is left plays from the state that it leads to.
-- Assumes nothing.
use mathlib.Core.Path.{◌≡◌, refl, sym, ap, ◌∙◌, subst}
use mathlib.Core.Bool.{Bool, true}
use mathlib.Core.List.{List, [], ◌∷◌}
use mathlib.Core.Option.{Option, none, some}
use Prim.Native.Nat.{ℕ}
use native.Mathlib.Omega.{arith}
use lib.Dec.{eqb}
use borrow.Author.Tests.{eqb-true, eq-eqb}
use Rattle.slices.specs.Choice.{pick}
use Rattle.slices.proofs.Choice.{pick_yes, pick_no, either, and_left, and_right, and_both}
use Rattle.numbers.specs.Tables.{command, answer, decision}
use Rattle.tape_read.specs.Entries.{Entry, entry}
use Rattle.slices.specs.Tests.{alike}
use Rattle.slices.proofs.Comparing.{alike_same, same_alike}
use Rattle.sessions.specs.Rules.{Phase, asks, hears, decides, Rules}
use Rattle.sessions.specs.Session.{is_payload, Plays, exchanged, heard, decided, Session}
use Rattle.sessions.specs.Machine.{Machine, at, owes, done, due, and_on, sayable, next, run}
use Rattle.sessions.proofs.Lists.{head_same, tail_same}

-- an entry that is due, and one that is not
due_yes : (k : ℕ) (test : Bool) (p : List ℕ) → test ≡ true → due k test (entry k p) ≡ true
unfolding due
due_yes k test p e = and_both (eqb k k) test (eq-eqb k k refl) e

pub due_entry : (k : ℕ) (test : Bool) (e : Entry) → due k test e ≡ true → e ≡ entry k e.payload
unfolding due
due_entry k test e h = ap (λ (n : ℕ). entry n e.payload) (eqb-true e.kind k (and_left (eqb e.kind k) test h))

pub due_test : (k : ℕ) (test : Bool) (e : Entry) → due k test e ≡ true → test ≡ true
unfolding due
due_test k test e h = and_right (eqb e.kind k) test h

module _ {A H S : Type 0} where
  pub no_state : {X : Type 0} (σ : Machine A H S) → none ≡ some σ → X
  no_state σ e = absurd (let z : ◌≡◌ {A = ℕ} 0 1 = cc in omega arith)

  -- what a passed test leaves of a choice
  pub chosen : (test : Bool) (o : Option (Machine A H S)) (σ : Machine A H S) → pick test o none ≡ some σ → (test ≡ true) × (o ≡ some σ)
  chosen test o σ h = either test (λ y. (y, sym (pick_yes _ _ _ y) ∙ h)) (λ n. no_state σ (sym (pick_no _ _ _ n) ∙ h))

  pub taken : (f : Machine A H S → Option (Machine A H S)) (o : Option (Machine A H S)) (τ : Machine A H S) → and_on f o ≡ some τ
      → (σ : Machine A H S) × ((o ≡ some σ) × (f σ ≡ some τ))
  unfolding and_on
  taken f none τ h = no_state τ h
  taken f (some σ) τ h = (σ, (refl, h))

module _ {A H S : Type 0} (rules : Rules A H S) where
  open rules use {opens, command_of, turn, due_kind, allowed, after, decision_of}

  -- what is left of a session in a state
  abbrev pub Follows : Machine A H S → List Entry → Type 0
  Follows (at p) es = Plays rules p es
  Follows (owes w) es = Plays rules (asks w) (entry command (command_of w) ∷ es)
  Follows done es = es ≡ []

  module _ (h : H) (p : List ℕ) where
    say : allowed h p ≡ true → is_payload p ≡ true → sayable rules h p ≡ true
    unfolding sayable
    say fits ok = and_both (allowed h p) (is_payload p) fits ok

    pub said_allowed : sayable rules h p ≡ true → allowed h p ≡ true
    unfolding sayable
    said_allowed e = and_left (allowed h p) (is_payload p) e

    pub said_payload : sayable rules h p ≡ true → is_payload p ≡ true
    unfolding sayable
    said_payload e = and_right (allowed h p) (is_payload p) e

  pub follows_from : (σ τ : Machine A H S) (es : List Entry) → σ ≡ τ → Follows σ es → Follows τ es
  follows_from σ τ es e h = subst (λ (x : Machine A H S). Follows x es) e h

  -- an entry that can be, and what follows it
  pub step_on : (σ τ : Machine A H S) (e : Entry) (es : List Entry) → next rules σ e ≡ some τ → Follows τ es → Follows σ (e ∷ es)
  unfolding next
  step_on (at (asks w)) τ e es h rest =
      let c = chosen (due command (alike e.payload (command_of w)) e) (some (owes w)) τ h in
      let same : e.payload ≡ command_of w = alike_same e.payload (command_of w) (due_test command _ e c.0) in
      subst (λ (x : Entry). Plays rules (asks w) (x ∷ es)) (sym (due_entry command _ e c.0 ∙ ap (entry command) same))
      (follows_from τ (owes w) es (cc c.1) rest)
  step_on (at (hears h)) τ e es n rest =
      let c = chosen (due (due_kind h) (sayable rules h e.payload) e) (some (at (after h e.payload))) τ n in
      let said = due_test (due_kind h) _ e c.0 in
      subst (λ (x : Entry). Plays rules (hears h) (x ∷ es)) (sym (due_entry (due_kind h) _ e c.0))
      (heard refl (said_allowed h _ said) (said_payload h _ said) (follows_from τ (at (after h e.payload)) es (cc c.1) rest))
  step_on (at (decides outcome reason s)) τ e es h rest =
      let c = chosen (due decision (alike e.payload (decision_of outcome reason s)) e) (some done) τ h in
      let same : e.payload ≡ decision_of outcome reason s =
      alike_same e.payload (decision_of outcome reason s) (due_test decision _ e c.0) in
      let ended : es ≡ [] = follows_from τ done es (cc c.1) rest in
      subst (λ (x : Entry). Plays rules (decides outcome reason s) (x ∷ es)) (sym (due_entry decision _ e c.0))
      (subst (λ (l : List Entry). Plays rules (decides outcome reason s) (entry decision e.payload ∷ l)) (sym ended) (decided same))
  step_on (owes w) τ e es h rest =
      let c = chosen (due answer (is_payload e.payload) e) (some (at (turn w e.payload))) τ h in
      subst (λ (x : Entry). Plays rules (asks w) (entry command (command_of w) ∷ x ∷ es)) (sym (due_entry answer _ e c.0))
      (exchanged refl (due_test answer _ e c.0) (follows_from τ (at (turn w e.payload)) es (cc c.1) rest))
  step_on done τ e es h rest = no_state τ h

  -- how the machine takes an entry that is due
  pub takes_command : (w : A) → next rules (at (asks w)) (entry command (command_of w)) ≡ some (owes w)
  unfolding next
  takes_command w = pick_yes _ _ _ (due_yes command _ (command_of w) (same_alike (command_of w)))

  pub takes_answer : (w : A) (a : List ℕ) → is_payload a ≡ true → next rules (owes w) (entry answer a) ≡ some (at (turn w a))
  unfolding next
  takes_answer w a ok = pick_yes _ _ _ (due_yes answer _ a ok)

  pub takes_heard : (h : H) (p : List ℕ) → allowed h p ≡ true → is_payload p ≡ true
      → next rules (at (hears h)) (entry (due_kind h) p) ≡ some (at (after h p))
  unfolding next
  takes_heard h p fits ok = pick_yes _ _ _ (due_yes (due_kind h) _ p (say h p fits ok))

  pub takes_decision : (outcome reason : ℕ) (s : S)
      → next rules (at (decides outcome reason s)) (entry decision (decision_of outcome reason s)) ≡ some done
  unfolding next
  takes_decision outcome reason s =
      pick_yes _ _ _ (due_yes decision _ (decision_of outcome reason s) (same_alike (decision_of outcome reason s)))

  -- what an entry leads to
  abbrev pub Led : Machine A H S → Entry → List Entry → Type 0
  Led σ e es = (τ : Machine A H S) × ((next rules σ e ≡ some τ) × Follows τ es)

  led : (σ τ : Machine A H S) (x e : Entry) (fs es : List Entry) → next rules σ x ≡ some τ → Follows τ fs → x ∷ fs ≡ e ∷ es → Led σ e es
  led σ τ x e fs es h play same =
      (τ, (ap (next rules σ) (sym (head_same x e fs es same)) ∙ h, subst (λ (l : List Entry). Follows τ l) (tail_same x e fs es same) play))

  from_phase : {p : Phase A H S} {l : List Entry} → Plays rules p l → (e : Entry) (es : List Entry) → l ≡ e ∷ es → Led (at p) e es
  from_phase (exchanged {w} {c} {a} {es = fs} f ok play) e es h =
      led (at (asks w)) (owes w) (entry command c) e (entry answer a ∷ fs) es
      (ap (λ (x : List ℕ). next rules (at (asks w)) (entry command x)) f ∙ takes_command w) (exchanged refl ok play) h
  from_phase (heard {h} {k} {p} {es = fs} f fits ok play) e es same =
      led (at (hears h)) (at (after h p)) (entry k p) e fs es
      (ap (λ (x : ℕ). next rules (at (hears h)) (entry x p)) f ∙ takes_heard h p fits ok) play same
  from_phase (decided {outcome} {reason} {s} {d} f) e es h =
      led (at (decides outcome reason s)) done (entry decision d) e [] es
      (ap (λ (x : List ℕ). next rules (at (decides outcome reason s)) (entry decision x)) f ∙ takes_decision outcome reason s) refl h

  from_asked : {w : A} {l : List Entry} → Plays rules (asks w) l → (c e : Entry) (es : List Entry) → l ≡ c ∷ e ∷ es → Led (owes w) e es
  from_asked (exchanged {w} {c = d} {a} {es = fs} f ok play) c e es h =
      led (owes w) (at (turn w a)) (entry answer a) e fs es (takes_answer w a ok) play
      (tail_same (entry command d) c (entry answer a ∷ fs) (e ∷ es) h)

  -- a session's entry can be, and what follows it follows the next state
  pub step_back : (σ : Machine A H S) (e : Entry) (es : List Entry) → Follows σ (e ∷ es) → Led σ e es
  step_back (at p) e es play = from_phase play e es refl
  step_back (owes w) e es play = from_asked play (entry command (command_of w)) e es refl
  step_back done e es h = absurd (let z : ◌≡◌ {A = ℕ} 0 1 = cc in omega arith)

  -- nothing is left of a session only at its end
  pub no_play : {p : Phase A H S} {l : List Entry} → Plays rules p l → l ≡ [] → ⊥
  no_play (exchanged f ok play) h = let z : ◌≡◌ {A = ℕ} 0 1 = cc in omega arith
  no_play (heard f fits ok play) h = let z : ◌≡◌ {A = ℕ} 0 1 = cc in omega arith
  no_play (decided f) h = let z : ◌≡◌ {A = ℕ} 0 1 = cc in omega arith

  not_alone : {w : A} {l : List Entry} → Plays rules (asks w) l → (c : Entry) → l ≡ c ∷ [] → ⊥
  not_alone (exchanged {c = d} {a} {es} f ok play) c h =
      let none_left : entry answer a ∷ es ≡ [] = tail_same (entry command d) c (entry answer a ∷ es) [] h in
      let z : ◌≡◌ {A = ℕ} 0 1 = cc in omega arith

  pub at_end_lem : (σ : Machine A H S) → Follows σ [] → σ ≡ done
  at_end_lem (at p) play = absurd (no_play play refl)
  at_end_lem (owes w) play = absurd (not_alone play (entry command (command_of w)) refl)
  at_end_lem done h = refl

  -- the machine ends on what follows a state to the end, and on nothing else
  pub follows_ends : (es : List Entry) (σ : Machine A H S) → Follows σ es → run rules es σ ≡ some done
  unfolding run and_on
  follows_ends [] σ play = ap some (at_end_lem σ play)
  follows_ends (e ∷ es) σ play =
      let l = step_back σ e es play in
      ap (and_on (run rules es)) l.1.0 ∙ follows_ends es l.0 l.1.1

  pub ends_follow : (es : List Entry) (σ : Machine A H S) → run rules es σ ≡ some done → Follows σ es
  unfolding run
  ends_follow [] σ h =
      let e : σ ≡ done = cc in
      follows_from done σ [] (sym e) refl
  ends_follow (e ∷ es) σ h =
      let t = taken (run rules es) (next rules σ e) done h in
      step_on σ t.0 e es t.1.0 (ends_follow es t.0 t.1.1)

  -- a list of entries is a session exactly where the machine ends on it
  pub session_run : (es : List Entry) → Session rules es → run rules es (at opens) ≡ some done
  unfolding Session
  session_run es play = follows_ends es (at opens) play

  pub run_session : (es : List Entry) → run rules es (at opens) ≡ some done → Session rules es
  unfolding Session
  run_session es h = ends_follow es (at opens) h
