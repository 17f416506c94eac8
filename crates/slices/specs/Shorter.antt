-- Recursion on shorter lists. A definition that asks again only of a part of its list is written as one step, which is
-- handed the answers for shorter lists; `shorter` is the function that the step describes.
-- Assumes nothing.
use Rattle.std.specs.Prelude.{◌≡◌, List, ℕ, zero, suc, ◌<◌, length}

-- at most n steps deep; `end` stands where none is left
unfoldable pub counted : {B : Type 0} → ((List ℕ → B) → List ℕ → B) → B → ℕ → List ℕ → B
counted step end zero s = end
counted step end (suc n) s = step (counted step end n) s

-- as deep as the list is long, and one more: no step that asks only of shorter lists gets to the end
unfoldable pub shorter : {B : Type 0} → ((List ℕ → B) → List ℕ → B) → B → List ℕ → B
shorter step end s = counted step end (suc (length s)) s

-- a step's answer for s depends only on its answers for shorter lists
abbrev pub Asks : {B : Type 0} → ((List ℕ → B) → List ℕ → B) → Type 0
Asks {B} step = (f g : List ℕ → B) (s : List ℕ) → ((t : List ℕ) → length t < length s → f t ≡ g t) → step f s ≡ step g s
