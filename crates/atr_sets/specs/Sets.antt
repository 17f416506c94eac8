-- The rules of a set, by number: the first of them, whether one is in it, and where each rule's character stands.
-- Assumes nothing.
use Rattle.std.specs.Prelude.{Bool, false, map, ℕ, zero, suc, ◌+◌, ◌-◌, ◌/◌, ◌%◌, ◌^◌, ltb, eqb}
use Rattle.slices.specs.Choice.{pick}
use Rattle.slices.specs.Tables.{beside}
use Rattle.atr_characters.specs.declared.Located.{Located}
use Rattle.atr_rules.specs.Names.{numbers}
use Rattle.atr_rules.specs.Lines.{Line, lines_of}

-- the lowest of n bits, the first of which has number k; 0 where none is set
unfoldable pub lowest : ℕ → ℕ → ℕ → ℕ
lowest zero k x = 0
lowest (suc n) k x = pick (eqb (x % 2) 1) k (lowest n (k + 1) (x / 2))

-- whether a rule is in a set
unfoldable pub has_rule : ℕ → ℕ → Bool
has_rule x k = pick (ltb k 1) false (pick (ltb numbers k) false (eqb (x / 2 ^ (k - 1) % 2) 1))

-- the place of a rule's character, broken or not; 0 for a number that is none
unfoldable pub place_of : Located → ℕ → ℕ
place_of l k = beside 0 k (map (λ (x : Line). (x.number, x.place)) (lines_of false l false))
