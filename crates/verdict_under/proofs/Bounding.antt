-- How large the number beside a verdict can be: where each turn and each word leads to a phase that adds no more than is taken off what is
-- left, no entries add more than is left where a session opens.
-- Assumes nothing.
use mathlib.Core.Path.{◌≡◌, refl, subst}
use mathlib.Core.List.{List, [], ◌∷◌}
use mathlib.Core.Option.{Option, none, some}
use Prim.Native.Nat.{ℕ, ◌+◌, ◌≤◌}
use native.Mathlib.Omega.{arith}
use Rattle.tape_read.specs.Entries.{Entry}
use Rattle.sessions.specs.Rules.{Phase, asks, hears, decides, Rules}
use Rattle.sessions.specs.Machine.{Machine, at, owes, done, next}
use Rattle.sessions.proofs.Running.{chosen, no_state}
use Rattle.verdict_under.specs.Summing.{new_in, count_on, zeros_from, zeros_of}

-- what is known of the phases that are reached, and how much is left in each
module _ {A H S : Type 0} (rules : Rules A H S) (count : Phase A H S → ℕ) (Known : Phase A H S → Type 0) (left : Phase A H S → ℕ) where
  open rules use {opens, turn, after}

  -- a phase adds and leaves no more than n
  abbrev pub Within : ℕ → Phase A H S → Type 0
  Within n p = Known p × (count p + left p ≤ n)

  abbrev KnownAt : Machine A H S → Type 0
  KnownAt (at p) = Known p
  KnownAt (owes w) = Known (asks w)
  KnownAt done = Unit {0}

  unfoldable left_at : Machine A H S → ℕ
  left_at (at p) = left p
  left_at (owes w) = left (asks w)
  left_at done = 0

  abbrev Moves : Machine A H S → Machine A H S → Type 0
  Moves σ τ = KnownAt τ × (new_in count τ + left_at τ ≤ left_at σ)

  moved_to : (σ τ ρ : Machine A H S) → some τ ≡ some ρ → Moves σ τ → Moves σ ρ
  moved_to σ τ ρ e h = let same : τ ≡ ρ = cc e in subst (Moves σ) same h

  counted_within : (f : Machine A H S → ℕ) (n : ℕ) (o : Option (Machine A H S))
      → ((τ : Machine A H S) → o ≡ some τ → new_in count τ + f τ ≤ n) → count_on count f o ≤ n
  unfolding count_on
  counted_within f n none h = omega arith
  counted_within f n (some τ) h = h τ refl

  module _ (turns : (w : A) (a : List ℕ) → Known (asks w) → Within (left (asks w)) (turn w a))
      (afters : (h : H) (p : List ℕ) → Known (hears h) → Within (left (hears h)) (after h p)) where
    next_within : (σ ρ : Machine A H S) (e : Entry) → KnownAt σ → next rules σ e ≡ some ρ → Moves σ ρ
    unfolding next new_in left_at
    next_within (at (asks w)) ρ e known h = moved_to (at (asks w)) (owes w) ρ (chosen _ _ ρ h).1 (known, omega arith)
    next_within (at (hears x)) ρ e known h =
        moved_to (at (hears x)) (at (after x e.payload)) ρ (chosen _ _ ρ h).1 (afters x e.payload known)
    next_within (at (decides outcome reason s)) ρ e known h =
        moved_to (at (decides outcome reason s)) done ρ (chosen _ _ ρ h).1 (tt, omega arith)
    next_within (owes w) ρ e known h = moved_to (owes w) (at (turn w e.payload)) ρ (chosen _ _ ρ h).1 (turns w e.payload known)
    next_within done ρ e known h = no_state ρ h

    sum_within : (es : List Entry) (σ : Machine A H S) → KnownAt σ → zeros_from rules count es σ ≤ left_at σ
    unfolding zeros_from
    sum_within [] σ known = omega arith
    sum_within (e ∷ es) σ known =
        counted_within (zeros_from rules count es) (left_at σ) (next rules σ e) (λ τ h.
        let m = next_within σ τ e known h in
        let rest = sum_within es τ m.0 in
        let here = m.1 in
        omega arith)

    -- the number of any entries
    pub sum_most : Known opens → (es : List Entry) → zeros_of rules count es ≤ left opens
    unfolding left_at
    sum_most known es = sum_within es (at opens) known
