-- The list of applications, in the order in which they are shown and selected. It is kept in order as it grows, so that it is never sorted.
-- 02, R-12: by priority, those without one last, equals as met; 001, 12.4/4 and 12.4/5.
-- Assumes nothing.
use Rattle.std.specs.Prelude.{Bool, not, ◌&&◌, List, [], ◌∷◌, ℕ, zero, suc, ◌+◌, ◌%◌, eqb, leb, length}
use Rattle.slices.specs.Choice.{pick}

-- an application that the card and the terminal both have: its name, where it stands, and whether it is not to be selected without the
-- shopper's confirmation
pub record Candidate : Type 0 where
  pub name : List ℕ
  pub standing : ℕ
  pub confirm : Bool

-- b4-b1 of the priority indicator, 1 the highest; 16 where no priority is assigned. 001, Table 13
unfoldable pub priority : ℕ → ℕ
priority b = pick (eqb (b % 16) 0) 16 (b % 16)

-- b8: the application cannot be selected without confirmation by the cardholder
unfoldable pub confirms : ℕ → Bool
confirms b = leb 128 b

-- where an application stands. A terminal whose shopper cannot choose never selects one that wants a confirmation (001, 12.4/5): there it
-- stands behind all others, so that the first in order is the one to select
unfoldable pub standing_of : Bool → ℕ → ℕ
standing_of choice b = priority b + pick (not choice && confirms b) 32 0

-- an application as it was met: by its name, and what its priority indicator says
unfoldable pub candidate_of : Bool → List ℕ → ℕ → Candidate
candidate_of choice name b = record { name = name; standing = standing_of choice b; confirm = confirms b }

-- one joins: before the first that stands behind it, and so behind its equals
unfoldable pub placed : Candidate → List Candidate → List Candidate
placed c [] = c ∷ []
placed c (d ∷ l) = pick (leb d.standing c.standing) (d ∷ placed c l) (c ∷ d ∷ l)

-- one falls out, by its place from 0
unfoldable pub without : ℕ → List Candidate → List Candidate
without i [] = []
without zero (d ∷ l) = l
without (suc i) (d ∷ l) = d ∷ without i l

-- how many are shown: 02, R-12, the first 255
abbrev pub most_shown : ℕ
most_shown = 255

unfoldable pub shown_of : List Candidate → ℕ
shown_of l = pick (leb (length l) most_shown) (length l) most_shown
