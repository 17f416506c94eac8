-- A rule of a table: a test that is computed over all of its entries, one after the other, holds at each of them.
-- Assumes nothing.
use mathlib.Core.Path.{◌≡◌, ◌∙◌, sym, subst}
use mathlib.Core.Bool.{Bool, true, and-eq-true_iff}
use mathlib.Core.List.{List, [], ◌∷◌}
use Prim.Native.Nat.{ℕ, zero, suc, ◌+◌, ◌<◌}
use native.Mathlib.Nat.{add-zero, zero-add, add-suc, suc-add, le_of_suc-le-suc, not-suc-le-zero}
use lib.ListN.{length, get_or}
use Rattle.tape_crc.specs.Tables.{every}

from : (test : ℕ → ℕ → Bool) (xs : List ℕ) (i : ℕ) → every test i xs ≡ true → (k : ℕ) → k < length xs → test (i + k) (get_or xs k 0) ≡ true
from test [] i e k h = absurd (not-suc-le-zero h)
from test (x ∷ xs) i e zero h =
    subst (λ (m : ℕ). test m x ≡ true) (sym (add-zero i)) ((and-eq-true_iff (test i x) (every test (suc i) xs)).0 e).0
from test (x ∷ xs) i e (suc k) h =
    subst (λ (m : ℕ). test m (get_or xs k 0) ≡ true) (suc-add i k ∙ sym (add-suc i k))
    (from test xs (suc i) ((and-eq-true_iff (test i x) (every test (suc i) xs)).0 e).1 k (le_of_suc-le-suc h))

pub entry : (test : ℕ → ℕ → Bool) (xs : List ℕ) → every test 0 xs ≡ true → (k : ℕ) → k < length xs → test k (get_or xs k 0) ≡ true
entry test xs e k h = subst (λ (m : ℕ). test m (get_or xs k 0) ≡ true) (zero-add k) (from test xs 0 e k h)
