-- The list as callers of `recover` get it: from one good block to the next, or each block handed in by itself (02, R-9).
-- Assumes nothing.
use Rattle.std.specs.Prelude.{List, [], ◌∷◌, Option, None, Some, ℕ, zero, suc, ◌+◌}
use Rattle.recover.specs.Salvage.{Salvaged, salvage, next_from, payload_of}
use Rattle.recover.specs.declared.Block.{Block}

-- what was found and its payload, and then the others, from the step behind it
unfoldable pub taken : List ℕ → Option Block → (ℕ → List Salvaged) → List Salvaged
taken t (Some b) others = salvage b.step b.number b.session b.kind (payload_of t (Some b)) ∷ others (b.step + 1)
taken t None others = []

-- `next` asked so many times, from a step on
unfoldable pub walk : ℕ → List ℕ → ℕ → List Salvaged
walk zero t k = []
walk (suc n) t k = taken t (next_from t k) (walk n t)

-- what `next` finds in one block by itself, at the step where that block stands, and then the others
unfoldable pub placed : ℕ → List ℕ → Option Block → List Salvaged → List Salvaged
placed n b (Some found) others = salvage n found.number found.session found.kind (payload_of b (Some found)) ∷ others
placed n b None others = others

-- blocks handed in one by one, the first of them from step n
unfoldable pub by_block : ℕ → List (List ℕ) → List Salvaged
by_block n [] = []
by_block n (b ∷ bs) = placed n b (next_from b 0) (by_block (n + 1) bs)
