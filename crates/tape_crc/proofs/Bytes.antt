-- A list of bytes: each element is below 256, and so are those of its parts.
-- Assumes nothing.
use mathlib.Core.Path.{◌≡◌, refl}
use mathlib.Core.Bool.{true, and-eq-true_iff}
use mathlib.Core.List.{List, [], ◌∷◌, ◌++◌}
use Prim.Native.Nat.{ℕ, zero, suc, ◌<◌, suc-le-suc}
use native.Mathlib.Nat.{zero-lt-suc}
use lib.Dec.{ltb}
use lib.ListN.{length, get_or, take, drop}
use lib.Pow.{are_bytes}
use borrow.Author.Tests.{ltb-true, lt-ltb}

pub bytes_head : (b : ℕ) (s : List ℕ) → are_bytes (b ∷ s) ≡ true → b < 256
bytes_head b s e = ltb-true b 256 ((and-eq-true_iff (ltb b 256) (are_bytes s)).0 e).0

pub bytes_rest : (b : ℕ) (s : List ℕ) → are_bytes (b ∷ s) ≡ true → are_bytes s ≡ true
bytes_rest b s e = ((and-eq-true_iff (ltb b 256) (are_bytes s)).0 e).1

pub bytes_cons : (b : ℕ) (s : List ℕ) → b < 256 → are_bytes s ≡ true → are_bytes (b ∷ s) ≡ true
bytes_cons b s h e = (and-eq-true_iff (ltb b 256) (are_bytes s)).1 (lt-ltb b 256 h, e)

pub bytes_append : (s t : List ℕ) → are_bytes s ≡ true → are_bytes t ≡ true → are_bytes (s ++ t) ≡ true
bytes_append [] t e f = f
bytes_append (b ∷ s) t e f = bytes_cons b (s ++ t) (bytes_head b s e) (bytes_append s t (bytes_rest b s e) f)

pub bytes_take : (n : ℕ) (s : List ℕ) → are_bytes s ≡ true → are_bytes (take n s) ≡ true
bytes_take zero s e = refl
bytes_take (suc n) [] e = refl
bytes_take (suc n) (b ∷ s) e = bytes_cons b (take n s) (bytes_head b s e) (bytes_take n s (bytes_rest b s e))

pub bytes_drop : (n : ℕ) (s : List ℕ) → are_bytes s ≡ true → are_bytes (drop n s) ≡ true
bytes_drop zero s e = e
bytes_drop (suc n) [] e = refl
bytes_drop (suc n) (b ∷ s) e = bytes_drop n s (bytes_rest b s e)

-- from the elements one by one, as a slice tells them
pub bytes_each : (s : List ℕ) → ((i : ℕ) → i < length s → get_or s i 0 < 256) → are_bytes s ≡ true
bytes_each [] h = refl
bytes_each (b ∷ s) h = bytes_cons b s (h zero (zero-lt-suc (length s))) (bytes_each s (λ i l. h (suc i) (suc-le-suc l)))

pub bytes_at : (s : List ℕ) → are_bytes s ≡ true → (i : ℕ) → get_or s i 0 < 256
bytes_at [] e i = zero-lt-suc 255
bytes_at (b ∷ s) e zero = bytes_head b s e
bytes_at (b ∷ s) e (suc i) = bytes_at s (bytes_rest b s e) i
