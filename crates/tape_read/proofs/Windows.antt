-- The bytes at a place: where they are all there they are a part of the list, and two neighbours make a wider one.
-- Assumes nothing.
use mathlib.Core.Path.{◌≡◌, refl, sym, ap, ap₂, ◌∙◌}
use mathlib.Core.Bool.{Bool, ◌&&◌}
use mathlib.Core.List.{List, ◌∷◌, ◌++◌}
use Prim.Native.Nat.{ℕ, zero, suc, ◌+◌, ◌*◌, ◌≤◌}
use native.Mathlib.Nat.{add-zero, zero-add, suc-add, mul-one}
use native.Mathlib.Numerals.{add-one}
use native.Mathlib.Omega.{arith}
use lib.Dec.{eqb, ltb}
use lib.ListN.{length, get_or, take, drop, length-append, get_or-eq_default}
use lib.Seq.{drop-cons, take_at, drop_at}
use borrow.Author.Tests.{ltb-true, ltb-false}
use Rattle.slices.proofs.Choice.{either}
use Rattle.slices.proofs.Cutting.{past_end}
use Rattle.tape_read.specs.Numbers.{number_of}
use Rattle.tape_read.specs.Blocks.{window, field, all_zero}
use Rattle.tape_read.proofs.Numbers.{number_append}

pub window_length : (w at : ℕ) (b : List ℕ) → length (window w at b) ≡ w
unfolding window
window_length zero at b = refl
window_length (suc w) at b = ap suc (window_length w (at + 1) b)

-- all there: a part of the list
pub window_part : (w at : ℕ) (b : List ℕ) → at + w ≤ length b → window w at b ≡ take w (drop at b)
unfolding window
window_part zero at b h = refl
window_part (suc w) at b h =
    ap (λ (s : List ℕ). get_or b at 0 ∷ s) (window_part w (at + 1) b (omega arith) ∙ ap (λ (k : ℕ). take w (drop k b)) (add-one at))
    ∙ sym (ap (take (suc w)) (drop-cons b at 0 (omega arith)))

-- whether all there is of it is zero: what is past the end counts as zero too
pub window_zero : (w at : ℕ) (b : List ℕ) → all_zero (take w (drop at b)) ≡ all_zero (window w at b)
unfolding all_zero window
window_zero zero at b = refl
window_zero (suc w) at b =
    let next : all_zero (take w (drop (suc at) b)) ≡ all_zero (window w (at + 1) b) =
    ap (λ (k : ℕ). all_zero (take w (drop k b))) (sym (add-one at)) ∙ window_zero w (at + 1) b in
    either (ltb at (length b))
    (λ y.
    ap (λ (s : List ℕ). all_zero (take (suc w) s)) (drop-cons b at 0 (ltb-true at (length b) y))
    ∙ ap (λ (t : Bool). eqb (get_or b at 0) 0 && t) next)
    (λ n.
    let past : length b ≤ at = ltb-false at (length b) n in
    ap all_zero (past_end (suc w) at b past)
    ∙ (sym (ap all_zero (past_end w (suc at) b (omega arith)))
    ∙ (next ∙ sym (ap (λ (x : ℕ). eqb x 0 && all_zero (window w (at + 1) b)) (get_or-eq_default b 0 past)))))

-- the middle of three lists
pub window_middle : (p m r : List ℕ) (at w : ℕ) → length p ≡ at → length m ≡ w → window w at (p ++ (m ++ r)) ≡ m
window_middle p m r at w h k =
    window_part w at (p ++ (m ++ r)) (simp length-append (omega arith))
    ∙ (ap (take w) (drop_at p (m ++ r) at h) ∙ take_at m r w k)

window_add : (v w at : ℕ) (b : List ℕ) → window (v + w) at b ≡ window v at b ++ window w (at + v) b
unfolding window
window_add zero w at b = ap₂ (λ (n k : ℕ). window n k b) (zero-add w) (sym (add-zero at))
window_add (suc v) w at b =
    ap (λ (n : ℕ). window n at b) (suc-add v w)
    ∙ ap (λ (s : List ℕ). get_or b at 0 ∷ s)
    (window_add v w (at + 1) b ∙ ap (λ (k : ℕ). window v (at + 1) b ++ window w k b) (omega arith))

-- a wide field is its high half and its low half
pub field_halves : (at : ℕ) (b : List ℕ) → field at 4 b ≡ field at 2 b * 65536 + field (at + 2) 2 b
unfolding field window
field_halves at b = ap number_of (window_add 2 2 at b) ∙ number_append (window 2 at b) (window 2 (at + 2) b)

-- a field of one byte is that byte
pub byte_field : (at : ℕ) (b : List ℕ) → field at 1 b ≡ get_or b at 0
unfolding field window number_of
byte_field at b = add-zero (get_or b at 0 * 1) ∙ mul-one (get_or b at 0)
