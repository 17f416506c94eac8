-- What the machine says of a list that is a session, a beginning or closed: it ends on the first, stops short of the end on the second,
-- and at the third it refuses the closing silence, the last entry. So no list is two of these.
-- Assumes nothing.
use mathlib.Core.Path.{◌≡◌, refl, sym, ap, ◌∙◌, subst}
use mathlib.Core.Bool.{Bool, false, ◌&&◌, false≢true}
use mathlib.Core.List.{List, [], ◌∷◌, ◌++◌}
use mathlib.Core.Option.{Option, none, some}
use Prim.Native.Nat.{ℕ}
use native.Mathlib.Omega.{arith}
use lib.Dec.{eqb}
use Rattle.slices.specs.Choice.{pick}
use Rattle.slices.proofs.Choice.{pick_no}
use Rattle.numbers.specs.Tables.{command, answer, silence, decision}
use Rattle.tape_read.specs.Entries.{Entry, entry}
use Rattle.sessions.specs.Rules.{asks, hears, decides, Rules}
use Rattle.sessions.specs.Session.{Session, Beginning, AwaitsCard, Closed}
use Rattle.sessions.specs.Kept.{Kept}
use Rattle.sessions.specs.Machine.{Machine, at, owes, done, due, and_on, next, run}
use Rattle.sessions.proofs.Running.{no_state, chosen, taken, session_run}

-- another kind than the one due
pub other_kind : (k j : ℕ) (test : Bool) (p : List ℕ) → eqb j k ≡ false → due k test (entry j p) ≡ false
unfolding due
other_kind k j test p e = ap (λ (b : Bool). b && test) e

module _ {A H S : Type 0} where
  then_twice : (f g h : Machine A H S → Option (Machine A H S)) (o : Option (Machine A H S)) → ((σ : Machine A H S) → f σ ≡ and_on g (h σ))
      → and_on f o ≡ and_on g (and_on h o)
  unfolding and_on
  then_twice f g h none same = refl
  then_twice f g h (some σ) same = same σ

  refused_kind : (k j : ℕ) (test : Bool) (p : List ℕ) (o : Option (Machine A H S)) (τ : Machine A H S) → eqb j k ≡ false
      → pick (due k test (entry j p)) o none ≡ some τ → ⊥
  refused_kind k j test p o τ e h = false≢true (sym (other_kind k j test p e) ∙ (chosen (due k test (entry j p)) o τ h).0)

module _ {A H S : Type 0} (rules : Rules A H S) where
  open rules use {opens, due_kind}

  pub run_append : (es fs : List Entry) (σ : Machine A H S) → run rules (es ++ fs) σ ≡ and_on (run rules fs) (run rules es σ)
  unfolding run and_on
  run_append [] fs σ = refl
  run_append (e ∷ es) fs σ = then_twice (run rules (es ++ fs)) (run rules fs) (run rules es) (next rules σ e) (run_append es fs)

  -- nothing is due at the end
  ended : (e : Entry) (es : List Entry) (τ : Machine A H S) → run rules (e ∷ es) done ≡ some τ → ⊥
  unfolding run next and_on
  ended e es τ h = let z : ◌≡◌ {A = ℕ} 0 1 = cc in omega arith

  -- an unfinished beginning is read up to a state before the end
  pub beginning_run : (es : List Entry) → Beginning rules es → (σ : Machine A H S) × ((run rules es (at opens) ≡ some σ) × (σ ≡ done → ⊥))
  unfolding Beginning
  beginning_run es b =
      let whole = sym (run_append es (b.0 ∷ b.1.0) (at opens)) ∙ session_run rules (es ++ (b.0 ∷ b.1.0)) b.1.1 in
      let t = taken (run rules (b.0 ∷ b.1.0)) (run rules es (at opens)) done whole in
      let never : t.0 ≡ done → ⊥ =
      λ e. ended b.0 b.1.0 done (subst (λ (σ : Machine A H S). run rules (b.0 ∷ b.1.0) σ ≡ some done) e t.1.1) in
      (t.0, (t.1.0, never))

  -- so it is not finished
  pub not_both : (es : List Entry) → Session rules es → Beginning rules es → ⊥
  not_both es play b =
      let r = beginning_run es b in
      let same = sym (session_run rules es play) ∙ r.1.0 in
      r.1.1 (cc same)

module _ {A H S : Type 0} {rules : Rules A H S} (kept : Kept rules) where
  open rules use {opens, due_kind}

  -- only where the card owes an answer is one taken
  answer_owed : (σ τ : Machine A H S) (a : List ℕ) → next rules σ (entry answer a) ≡ some τ → (w : A) × (σ ≡ owes w)
  unfolding next
  answer_owed (at (asks w)) τ a h = absurd (refused_kind command answer _ a _ τ refl h)
  answer_owed (at (hears x)) τ a h = absurd (refused_kind (due_kind x) answer _ a _ τ (kept.other_kinds x).no_answer h)
  answer_owed (at (decides outcome reason s)) τ a h = absurd (refused_kind decision answer _ a _ τ refl h)
  answer_owed (owes w) τ a h = (w, refl)
  answer_owed done τ a h = absurd (let z : ◌≡◌ {A = ℕ} 0 1 = cc in omega arith)

  -- no state takes a silence
  pub silence_refused : (σ : Machine A H S) (p : List ℕ) → next rules σ (entry silence p) ≡ none
  unfolding next
  silence_refused (at (asks w)) p = pick_no _ _ _ (other_kind command silence _ p refl)
  silence_refused (at (hears h)) p = pick_no _ _ _ (other_kind (due_kind h) silence _ p (kept.other_kinds h).no_silence)
  silence_refused (at (decides outcome reason s)) p = pick_no _ _ _ (other_kind decision silence _ p refl)
  silence_refused (owes w) p = pick_no _ _ _ (other_kind answer silence _ p refl)
  silence_refused done p = refl

  -- a beginning that waits for the card is read up to a command that it owes an answer to
  pub awaits_run : (es : List Entry) → AwaitsCard rules es → (w : A) × (run rules es (at opens) ≡ some (owes w))
  unfolding AwaitsCard run
  awaits_run es b =
      let rest = entry answer b.0 ∷ b.1.0 in
      let whole = sym (run_append rules es rest (at opens)) ∙ session_run rules (es ++ rest) b.1.1 in
      let t = taken (run rules rest) (run rules es (at opens)) done whole in
      let n = taken (run rules b.1.0) (next rules t.0 (entry answer b.0)) done t.1.1 in
      let o = answer_owed t.0 n.0 b.0 n.1.0 in
      (o.0, t.1.0 ∙ ap some o.1)

  -- a silence is where the machine stops
  silence_stops : (before : List Entry) (p : List ℕ) (σ : Machine A H S)
      → run rules (before ++ (entry silence p ∷ [])) (at opens) ≡ some σ → ⊥
  unfolding run
  silence_stops before p σ h =
      let last = sym (run_append rules before (entry silence p ∷ []) (at opens)) ∙ h in
      let t = taken (run rules (entry silence p ∷ [])) (run rules before (at opens)) σ last in
      let n = taken (run rules []) (next rules t.0 (entry silence p)) σ t.1.1 in
      no_state n.0 (sym (silence_refused t.0 p) ∙ n.1.0)

  pub closed_run : (es : List Entry) (σ : Machine A H S) → Closed rules es → run rules es (at opens) ≡ some σ → ⊥
  unfolding Closed
  closed_run es σ c h = silence_stops c.0 _ σ (ap (λ (l : List Entry). run rules l (at opens)) (sym c.1.1) ∙ h)

  -- and neither a session nor a beginning
  pub not_closed : (es : List Entry) → Session rules es → Closed rules es → ⊥
  not_closed es play c = closed_run es done c (session_run rules es play)

  pub not_begun : (es : List Entry) → Beginning rules es → Closed rules es → ⊥
  not_begun es b c = let r = beginning_run rules es b in closed_run es r.0 c r.1.0
