-- 02, R-1: a refusal for each rule broken, in the order of the characters.
-- Assumes nothing.
use Rattle.std.specs.Prelude.{Bool, true, ◌&&◌, List, [], ◌∷◌, ℕ, leb}
use Rattle.slices.specs.Choice.{pick}
use Rattle.atr_rules.specs.Lines.{Line}

-- the places of the rules that are broken, as the rules are given
unfoldable pub places_given : List Line → List ℕ
places_given [] = []
places_given (x ∷ xs) = pick x.broken (x.place ∷ places_given xs) (places_given xs)

-- from a number on, none is below the one before it
unfoldable pub never_falls : ℕ → List ℕ → Bool
never_falls low [] = true
never_falls low (p ∷ ps) = leb low p && never_falls p ps
