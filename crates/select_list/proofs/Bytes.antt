-- Bytes moved inside a buffer, one at a time, and bytes written over others.
-- Assumes nothing.
use mathlib.Core.Path.{◌≡◌, refl, sym, ap, ◌∙◌}
use mathlib.Core.List.{List, [], ◌∷◌, ◌++◌, append_assoc}
use Prim.Native.Nat.{ℕ, suc, ◌+◌, ◌-◌, ◌≤◌, ◌<◌}
use native.Mathlib.Numerals.{add-one}
use native.Mathlib.Omega.{arith}
use lib.ListN.{length, get_or, take, drop, set}
use lib.Seq.{set-append_left, take-set-lt, take-suc-set, get_or-take, get_or-drop, paste, drop-paste, length-take-le, drop-drop, drop_at}
use Rattle.slices.specs.Writing.{put}
use Rattle.slices.proofs.Writing.{put_take}

-- what stands before a write
pub put_before : (t : List ℕ) (p : ℕ) (d : List ℕ) (k : ℕ) → k < p → p ≤ length d → get_or (put t p d) k 0 ≡ get_or d k 0
put_before t p d k h z =
    sym (get_or-take p (put t p d) k 0 h) ∙ (ap (λ l. get_or l k 0) (put_take t p d z) ∙ get_or-take p d k 0 h)

-- what stands behind a write
pub put_drop : (t : List ℕ) (p : ℕ) (d : List ℕ) → p ≤ length d → drop p (put t p d) ≡ t ++ drop (length t) (drop p d)
unfolding put
put_drop t p d h = drop_at (take p d) _ p (length-take-le p d h)

-- a write with one byte more in front
pub put_one_more : (v : ℕ) (t : List ℕ) (p : ℕ) (d : List ℕ) → p < length d → set (put t (p + 1) d) p v ≡ put (v ∷ t) p d
unfolding put
put_one_more v t p d h =
    let size : length (take (p + 1) d) ≡ p + 1 = length-take-le (p + 1) d (omega arith) in
    let one : length (v ∷ t) ≡ suc (length t) = refl in
    set-append_left (take (p + 1) d) (t ++ drop (length t) (drop (p + 1) d)) p v (omega arith)
    ∙ (ap (λ l. l ++ (t ++ drop (length t) (drop (p + 1) d)))
    (sym (take-set-lt (p + 1) d p v (omega arith))
    ∙ (ap (λ (n : ℕ). take n (set d p v)) (add-one p) ∙ take-suc-set d p v h))
    ∙ (append_assoc (take p d) (v ∷ []) (t ++ drop (length t) (drop (p + 1) d))
    ∙ ap (λ l. take p d ++ (v ∷ (t ++ l))) (behind)))
  where
    behind : drop (length t) (drop (p + 1) d) ≡ drop (suc (length t)) (drop p d)
    behind =
        drop-drop (length t) (p + 1) d
        ∙ (ap (λ (n : ℕ). drop n d) (let e : p + 1 + length t ≡ p + suc (length t) = omega arith in e)
        ∙ sym (drop-drop (suc (length t)) p d))

-- what stands behind a copy that is under way
pub paste_behind : (d : List ℕ) (at : ℕ) (s : List ℕ) (i k : ℕ) → at ≤ length d → i ≤ length s → at + i ≤ k
    → get_or (paste d at s i) k 0 ≡ get_or d k 0
paste_behind d at s i k h z g =
    let e : at + i + (k - (at + i)) ≡ k = omega arith in
    ap (λ (n : ℕ). get_or (paste d at s i) n 0) (sym e)
    ∙ (sym (get_or-drop (at + i) (paste d at s i) (k - (at + i)) 0)
    ∙ (ap (λ l. get_or l (k - (at + i)) 0) (drop-paste d at s i h z)
    ∙ (get_or-drop (at + i) d (k - (at + i)) 0 ∙ ap (λ (n : ℕ). get_or d n 0) e)))
