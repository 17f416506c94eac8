-- Many tapes, one behind the other: where each ends, and a buffer that holds a number of each, one tape at a time. Assumes nothing.
use mathlib.Core.Path.{◌≡◌, refl, sym, ap, ◌∙◌}
use mathlib.Core.List.{List, [], ◌∷◌, map}
use Prim.Native.Nat.{ℕ, zero, suc, ◌+◌, ◌-◌, ◌≤◌, ◌<◌}
use native.Mathlib.Nat.{add-zero, zero-add, le_of_suc-le-suc, not-suc-le-zero}
use native.Mathlib.Numerals.{add-one}
use native.Mathlib.Omega.{arith}
use lib.Dec.{ltb}
use lib.ListN.{length, get_or, set, take, drop, drop_of_length-le, length-set}
use lib.Seq.{take-length, drop-cons, sets, set_out, get_or-set_same, get_or-set_other}
use borrow.Author.Tests.{ltb-false, le-ltb}
use Rattle.slices.specs.Choice.{pick}
use Rattle.slices.proofs.Choice.{pick_no, picked}
use Rattle.quick_check.specs.Damages.{damage_in, end_of, tape_in, tapes_from, places_told, codes_told}

-- a number stored past the end changes nothing
pub ruleset past_the_end = (set_out)

-- a tape ends not before it begins, and within the bytes
module _ (size from to : ℕ) (inside : from ≤ size) where
  pub end_after : from ≤ end_of size from to
  unfolding end_of
  end_after =
      picked (λ (e : ℕ). from ≤ e) (ltb to from) from (pick (ltb size to) from to) (λ _. omega arith)
      (λ order. picked (λ (e : ℕ). from ≤ e) (ltb size to) from to (λ _. omega arith) (λ _. ltb-false to from order))

  pub end_within : end_of size from to ≤ size
  unfolding end_of
  end_within =
      picked (λ (e : ℕ). e ≤ size) (ltb to from) from (pick (ltb size to) from to) (λ _. inside)
      (λ _. picked (λ (e : ℕ). e ≤ size) (ltb size to) from to (λ _. inside) (λ fits. ltb-false size to fits))

-- what the bounds of a tape in `each` stand on
pub ruleset tape_ends = (end_after, end_within, length-set)

at_end_lem : (n : ℕ) → end_of n 0 n ≡ n
unfolding end_of
at_end_lem n = pick_no _ _ _ (le-ltb n 0 (omega arith)) ∙ pick_no _ _ _ (le-ltb n n (omega arith))

module _ (f : List ℕ → ℕ) (bytes ends : List ℕ) where
  -- what a buffer becomes where the tapes from index i on, the first of which begins at `from`, are still to be told
  abbrev pub told : ℕ → ℕ → List ℕ → List ℕ
  told from i out = sets out i (map f (tapes_from from bytes (drop i ends)))

  pub told_next : (from i to x : ℕ) (out : List ℕ) → i < length ends → to ≡ end_of (length bytes) from (get_or ends i 0)
      → x ≡ f (tape_in from to bytes) → told to (i + 1) (set out i x) ≡ told from i out
  unfolding tapes_from
  told_next from i to x out inside e found =
      ap (λ (k : ℕ). sets (set out i x) k (map f (tapes_from to bytes (drop k ends)))) (add-one i)
      ∙ (ap (λ (y : ℕ). sets (set out i y) (suc i) (map f (tapes_from to bytes (drop (suc i) ends)))) found
      ∙ (ap (λ (t : ℕ). sets (set out i (f (tape_in from t bytes))) (suc i) (map f (tapes_from t bytes (drop (suc i) ends)))) e
      ∙ ap (λ (es : List ℕ). sets out i (map f (tapes_from from bytes es))) (sym (drop-cons ends i 0 inside))))

  pub told_all : (from i : ℕ) (out : List ℕ) → length ends ≤ i → told from i out ≡ out
  unfolding tapes_from
  told_all from i out end = ap (λ (es : List ℕ). sets out i (map f (tapes_from from bytes es))) (drop_of_length-le ends end)

-- the only tape there is
pub only : (t : List ℕ) → tapes_from 0 t (length t ∷ []) ≡ t ∷ []
unfolding tapes_from tape_in
only t =
    ap (λ (e : ℕ). take (e - 0) t ∷ []) (at_end_lem (length t))
    ∙ (ap (λ (n : ℕ). take n t ∷ []) same ∙ ap (λ (s : List ℕ). s ∷ []) (take-length t))
  where
    same : length t - 0 ≡ length t
    same = omega arith

-- numbers stored from an index on leave those before it, and the next one is the first of them
stored_before : (vs l : List ℕ) (i j : ℕ) → j < i → get_or (sets l i vs) j 0 ≡ get_or l j 0
stored_before [] l i j before = refl
stored_before (a ∷ vs) l i j before =
    stored_before vs (set l i a) (suc i) j (omega arith) ∙ get_or-set_other l i j a 0 (λ e. omega arith)

stored : (f : List ℕ → ℕ) (ts : List (List ℕ)) (l : List ℕ) (i k : ℕ) → k < length ts → i + k < length l
    → get_or (sets l i (map f ts)) (i + k) 0 ≡ f (get_or ts k [])
stored f [] l i k inside room = absurd (not-suc-le-zero inside)
stored f (t ∷ ts) l i zero inside room =
    ap (λ (j : ℕ). get_or (sets (set l i (f t)) (suc i) (map f ts)) j 0) (add-zero i)
    ∙ (stored_before (map f ts) (set l i (f t)) (suc i) i (omega arith) ∙ get_or-set_same l i (f t) 0 (omega (arith, room)))
stored f (t ∷ ts) l i (suc k) inside room =
    let next : i + suc k ≡ suc i + k = omega arith in
    ap (λ (j : ℕ). get_or (sets (set l i (f t)) (suc i) (map f ts)) j 0) next
    ∙ stored f ts (set l i (f t)) (suc i) k (le_of_suc-le-suc inside) (omega (arith, room, length-set l i (f t)))

-- each of many as alone: what stands at an index of the buffer, where it goes so far, is the place and the code of the tape there
pub place_alone : (bytes ends out : List ℕ) (k : ℕ) → k < length (tapes_from 0 bytes ends) → k < length out
    → get_or (places_told bytes ends out) k 0 ≡ (damage_in (get_or (tapes_from 0 bytes ends) k [])).place
place_alone bytes ends out k inside room =
    ap (λ (j : ℕ). get_or (places_told bytes ends out) j 0) (sym (zero-add k))
    ∙ stored (λ t. (damage_in t).place) (tapes_from 0 bytes ends) out 0 k inside (omega arith)

pub code_alone : (bytes ends out : List ℕ) (k : ℕ) → k < length (tapes_from 0 bytes ends) → k < length out
    → get_or (codes_told bytes ends out) k 0 ≡ (damage_in (get_or (tapes_from 0 bytes ends) k [])).code
code_alone bytes ends out k inside room =
    ap (λ (j : ℕ). get_or (codes_told bytes ends out) j 0) (sym (zero-add k))
    ∙ stored (λ t. (damage_in t).code) (tapes_from 0 bytes ends) out 0 k inside (omega arith)

-- there are as many tapes as ends
pub as_many : (from : ℕ) (bytes ends : List ℕ) → length (tapes_from from bytes ends) ≡ length ends
unfolding tapes_from
as_many from bytes [] = refl
as_many from bytes (to ∷ ends) = ap suc (as_many (end_of (length bytes) from to) bytes ends)
