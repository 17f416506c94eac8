-- Two beginnings that are given the same lead to the same state, whatever the rules: each entry that is taken leads both on alike, an
-- answer by what is seen of it; and a command or decision that is taken is the one that is due.
-- Assumes nothing.
use mathlib.Core.Path.{◌≡◌, refl, sym, ap, ap₂, ◌∙◌}
use mathlib.Core.List.{List, [], ◌∷◌}
use mathlib.Core.Option.{some}
use Prim.Native.Nat.{ℕ}
use Rattle.slices.specs.Tests.{alike}
use Rattle.slices.proofs.Comparing.{alike_same}
use Rattle.numbers.specs.Tables.{command, answer, decision}
use Rattle.tape_read.specs.Entries.{Entry, entry}
use Rattle.sessions.specs.Rules.{asks, hears, decides, Rules}
use Rattle.sessions.specs.Session.{is_payload}
use Rattle.sessions.specs.Machine.{Machine, at, owes, done, due, sayable, next, run}
use Rattle.sessions.proofs.Running.{taken, chosen, due_entry, due_test}
use Rattle.card_seen.specs.Under.{but_answer, but_answers, View, Alongside, none, asked, answered, said_both, decided_both, Through}
use Rattle.card_seen.proofs.Sessions.{kept, settled}

module _ {A H S : Type 0} (rules : Rules A H S) (view : View A H S) (through : Through rules view) where
  open rules use {command_of, turn, due_kind, after, decision_of}

  same_state : (σ τ : Machine A H S) → some σ ≡ some τ → σ ≡ τ
  same_state σ τ e = cc

  -- the entry that is taken where a command or the decision is due, and the state after each entry
  command_taken : (w : A) (e : Entry) (τ : Machine A H S) → next rules (at (asks w)) e ≡ some τ
      → (e ≡ entry command (command_of w)) × (owes w ≡ τ)
  unfolding next
  command_taken w e τ h =
      let c = chosen (due command (alike e.payload (command_of w)) e) (some (owes w)) τ h in (
        due_entry command _ e c.0 ∙ ap (entry command) (alike_same e.payload (command_of w) (due_test command _ e c.0)),
        same_state (owes w) τ c.1,
      )

  answer_taken : (w : A) (a : List ℕ) (τ : Machine A H S) → next rules (owes w) (entry answer a) ≡ some τ → at (turn w a) ≡ τ
  unfolding next
  answer_taken w a τ h = same_state (at (turn w a)) τ (chosen (due answer (is_payload a) (entry answer a)) (some (at (turn w a))) τ h).1

  word_taken : (h : H) (e : Entry) (τ : Machine A H S) → next rules (at (hears h)) e ≡ some τ → at (after h e.payload) ≡ τ
  unfolding next
  word_taken h e τ n =
      same_state (at (after h e.payload)) τ
      (chosen (due (due_kind h) (sayable rules h e.payload) e) (some (at (after h e.payload))) τ n).1

  decision_taken : (outcome reason : ℕ) (s : S) (e : Entry) (τ : Machine A H S) → next rules (at (decides outcome reason s)) e ≡ some τ
      → (e ≡ entry decision (decision_of outcome reason s)) × (done ≡ τ)
  unfolding next
  decision_taken outcome reason s e τ h =
      let c = chosen (due decision (alike e.payload (decision_of outcome reason s)) e) (some done) τ h in (
        due_entry decision _ e c.0
            ∙ ap (entry decision) (alike_same e.payload (decision_of outcome reason s) (due_test decision _ e c.0)),
        same_state done τ c.1,
      )

  -- what is read from a state is read from an equal one
  from : (es : List Entry) (σ τ ρ : Machine A H S) → σ ≡ τ → run rules es τ ≡ some ρ → run rules es σ ≡ some ρ
  from es σ τ ρ e h = ap (run rules es) e ∙ h

  abbrev Together : List Entry → List Entry → Machine A H S → Machine A H S → Type 0
  Together es fs τ ρ = (τ ≡ ρ) × (but_answers es ≡ but_answers fs)

  one_more_lem : (es fs : List Entry) {τ ρ : Machine A H S} (e f : Entry) → but_answer e ≡ but_answer f → Together es fs τ ρ
      → Together (e ∷ es) (f ∷ fs) τ ρ
  one_more_lem es fs e f same t = (t.0, ap₂ (λ (x : Entry) (xs : List Entry). x ∷ xs) same t.1)

  pub beginnings : {σ : Machine A H S} {es fs : List Entry} → Alongside rules view σ es fs → (τ ρ : Machine A H S) → run rules es σ ≡ some τ
      → run rules fs σ ≡ some ρ
      → (τ ≡ ρ) × (but_answers es ≡ but_answers fs)
  unfolding run
  beginnings (none {σ}) τ ρ h k = (sym (same_state σ τ h) ∙ same_state σ ρ k, refl)
  beginnings (asked {w} {es} {fs} e f more) τ ρ h k =
      let t = taken (run rules es) (next rules (at (asks w)) e) τ h in
      let u = taken (run rules fs) (next rules (at (asks w)) f) ρ k in
      let c = command_taken w e t.0 t.1.0 in
      let d = command_taken w f u.0 u.1.0 in
      one_more_lem es fs e f (ap but_answer (c.0 ∙ sym d.0))
      (beginnings more τ ρ (from es (owes w) t.0 τ c.1 t.1.1) (from fs (owes w) u.0 ρ d.1 u.1.1))
  beginnings (answered {w} {es} {fs} a b same more) τ ρ h k =
      let t = taken (run rules es) (next rules (owes w) (entry answer a)) τ h in
      let u = taken (run rules fs) (next rules (owes w) (entry answer b)) ρ k in
      let c = answer_taken w a t.0 t.1.0 in
      let d = ap at (settled rules view through w a b same) ∙ answer_taken w b u.0 u.1.0 in
      one_more_lem es fs (entry answer a) (entry answer b) ((kept [] a []).1.0 ∙ sym (kept [] b []).1.0)
      (beginnings more τ ρ (from es (at (turn w a)) t.0 τ c t.1.1) (from fs (at (turn w a)) u.0 ρ d u.1.1))
  beginnings (said_both {h = x} {es} {fs} e more) τ ρ h k =
      let t = taken (run rules es) (next rules (at (hears x)) e) τ h in
      let u = taken (run rules fs) (next rules (at (hears x)) e) ρ k in
      let c = word_taken x e t.0 t.1.0 in
      let d = word_taken x e u.0 u.1.0 in
      one_more_lem es fs e e refl
      (beginnings more τ ρ (from es (at (after x e.payload)) t.0 τ c t.1.1)
      (from fs (at (after x e.payload)) u.0 ρ d u.1.1))
  beginnings (decided_both {outcome} {reason} {s} {es} {fs} e f more) τ ρ h k =
      let t = taken (run rules es) (next rules (at (decides outcome reason s)) e) τ h in
      let u = taken (run rules fs) (next rules (at (decides outcome reason s)) f) ρ k in
      let c = decision_taken outcome reason s e t.0 t.1.0 in
      let d = decision_taken outcome reason s f u.0 u.1.0 in
      one_more_lem es fs e f (ap but_answer (c.0 ∙ sym d.0))
      (beginnings more τ ρ (from es done t.0 τ c.1 t.1.1) (from fs done u.0 ρ d.1 u.1.1))
