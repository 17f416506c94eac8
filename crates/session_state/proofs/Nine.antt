-- A short array's bytes, written out one by one, are the array.
-- Assumes nothing.
use mathlib.Core.Path.{◌≡◌, sym, ap, ◌∙◌}
use mathlib.Core.List.{List, [], ◌∷◌, ◌++◌}
use Prim.Native.Nat.{ℕ, zero, suc, ◌+◌}
use native.Mathlib.Nat.{zero-add}
use native.Mathlib.Omega.{arith}
use lib.ListN.{length, drop, get_or}
use lib.Seq.{drop-cons, drop-length}

-- n elements from place i on
abbrev listing : ℕ → ℕ → List ℕ → List ℕ
listing zero i t = []
listing (suc n) i t = get_or t i 0 ∷ listing n (suc i) t

from : (n i : ℕ) (t : List ℕ) → length t ≡ n + i → listing n i t ≡ drop i t
from zero i t e = sym (ap (λ (k : ℕ). drop k t) (sym (e ∙ zero-add i)) ∙ drop-length t)
from (suc n) i t e = ap (λ (l : List ℕ). get_or t i 0 ∷ l) (from n (suc i) t (omega arith)) ∙ sym (drop-cons t i 0 (omega arith))

pub nine_bytes : (t u : List ℕ) → length t ≡ 5 → length u ≡ 2
    → get_or t 0 0 ∷ get_or t 1 0 ∷ get_or t 2 0 ∷ get_or t 3 0 ∷ get_or t 4 0 ∷ get_or u 0 0 ∷ get_or u 1 0 ∷ [] ≡ t ++ u
nine_bytes t u e f = λ i. from 5 0 t e i ++ from 2 0 u f i
