-- A list worked out: applications that join one after the other, by what their priority indicators say (001, Table 13), where the shopper
-- can choose and where he cannot; and one that falls out. A name is one byte here.
-- Assumes nothing.
use mathlib.Core.Path.{◌≡◌, refl}
use mathlib.Core.Bool.{Bool, true, false}
use mathlib.Core.List.{List, [], ◌∷◌, map}
use Prim.Native.Nat.{ℕ}
use Rattle.slices.specs.Choice.{pick}
use Rattle.select_list.specs.Order.{Candidate, priority, confirms, standing_of, candidate_of, placed, without}

joined : Bool → List Candidate → List (ℕ × ℕ) → List Candidate
unfolding placed candidate_of standing_of priority confirms pick
joined choice l [] = l
joined choice l (m ∷ ms) = joined choice (placed (candidate_of choice (m.0 ∷ []) m.1) l) ms

-- no priority; priority 3; 15; 1 with a confirmation; 3 again; none, with a confirmation
abbrev met : List (ℕ × ℕ)
met = (1, 0x00) ∷ (2, 0x03) ∷ (3, 0x0F) ∷ (4, 0x81) ∷ (5, 0x73) ∷ (6, 0x80) ∷ []

names : Bool → List (List ℕ)
unfolding joined
names choice = map (λ c. c.name) (joined choice [] met)

chosen : names true ≡ (4 ∷ []) ∷ (2 ∷ []) ∷ (5 ∷ []) ∷ (3 ∷ []) ∷ (1 ∷ []) ∷ (6 ∷ []) ∷ []
unfolding names
chosen = refl

-- those with a confirmation stand behind all others
unattended : names false ≡ (2 ∷ []) ∷ (5 ∷ []) ∷ (3 ∷ []) ∷ (1 ∷ []) ∷ (4 ∷ []) ∷ (6 ∷ []) ∷ []
unfolding names
unattended = refl

fallen : List (List ℕ)
unfolding names without
fallen = map (λ c. c.name) (without 1 (joined true [] met))

one_less : fallen ≡ (4 ∷ []) ∷ (5 ∷ []) ∷ (3 ∷ []) ∷ (1 ∷ []) ∷ (6 ∷ []) ∷ []
unfolding fallen
one_less = refl
