-- What the loops over text need of tests and lists: a conjunction that fails, the front of a list, its next element,
-- and two stores in a row.
-- Assumes nothing.
use mathlib.Core.Path.{◌≡◌, refl, sym, ap, ◌∙◌}
use mathlib.Core.Bool.{Bool, true, false, ◌&&◌}
use mathlib.Core.List.{List, [], ◌∷◌, ◌++◌, append_assoc}
use Prim.Native.Nat.{ℕ, min, ◌+◌, ◌≤◌, ◌<◌}
use native.Mathlib.Nat.{zero-add}
use native.Mathlib.Numerals.{add-one}
use native.Mathlib.Omega.{arith}
use lib.ListN.{length, take, drop, get_or, set, length-take, length-drop}
use lib.Seq.{take_all, take-take, drop-drop, get_or-drop, paste, paste-suc, sets-eq}
use Rattle.slices.specs.Writing.{put}
use Rattle.slices.proofs.Writing.{put_pasted}

-- a conjunction fails where its tests cannot both hold
pub and_no : (s t : Bool) → (s ≡ true → t ≡ true → ⊥) → (s && t) ≡ false
and_no true true n = absurd (n refl refl)
and_no true false n = refl
and_no false t n = refl

-- a front is no longer than the list
pub as_far_as : (n i : ℕ) (s : List ℕ) → i ≡ min n (length s) → take n s ≡ take i s
as_far_as n i s e =
    let reached : length (take n s) ≤ i = rw length-take (omega arith) in
    sym (take_all i (take n s) reached) ∙ take-take i n s (omega arith)

-- a copy to the start of a buffer, one element further
pub one_copied : (u d : List ℕ) (n : ℕ) → n < length d → n < length u → set (paste d 0 u n) n (get_or u n 0) ≡ paste d 0 u (n + 1)
one_copied u d n h k =
    ap (λ (p : ℕ). set (paste d 0 u n) p (get_or u n 0)) (sym (zero-add n))
    ∙ (paste-suc d 0 u n 0 (rw zero-add h) k ∙ ap (paste d 0 u) (sym (add-one n)))

-- a copy that has come as far as there are elements and room
pub copied : (u d : List ℕ) (n : ℕ) → n ≡ min (length d) (length u)
    → (n ≡ length (take (length d) u)) × (paste d 0 u n ≡ put (take (length d) u) 0 d)
copied u d n e =
    let size : n ≡ length (take (length d) u) = e ∙ sym (length-take (length d) u) in (
      size,
      sym (put_pasted (take (length d) u) 0 d
          ∙ (ap (paste d 0 (take (length d) u)) (sym size)
          ∙ ap (λ (l : List ℕ). l ++ drop (0 + n) d) (take-take n (length d) u (omega arith)))),
    )

-- what the rest of a list from place n on tells of the list
module _ (u : List ℕ) (n v : ℕ) (r : List ℕ) (e : drop n u ≡ v ∷ r) where
  pub next_within : n < length u
  next_within = let long = sym (length-drop n u) ∙ ap length e in omega arith

  pub next_value : get_or u n 0 ≡ v
  next_value = ap (λ (k : ℕ). get_or u k 0) (sym (omega arith)) ∙ (sym (get_or-drop n u 0 0) ∙ ap (λ (l : List ℕ). get_or l 0 0) e)

  pub next_rest : drop (n + 1) u ≡ r
  next_rest = sym (drop-drop 1 n u) ∙ ap (drop 1) e

-- two stores side by side write two bytes
pub two_stores : (d : List ℕ) (p x y : ℕ) → p + 2 ≤ length d → set (set d p x) (p + 1) y ≡ put (x ∷ y ∷ []) p d
unfolding put
two_stores d p x y h =
    ap (λ (k : ℕ). set (set d p x) k y) (add-one p)
    ∙ (sets-eq (x ∷ y ∷ []) d p h ∙ (rw (drop-drop) (simp append_assoc)))
