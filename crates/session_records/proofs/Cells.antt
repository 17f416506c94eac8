-- What the bytes of a slot say, and what they say after a value was kept there.
-- Assumes nothing.
use mathlib.Core.Path.{◌≡◌, refl, sym, ap, ◌∙◌}
use mathlib.Core.Bool.{Bool, true, false, not}
use mathlib.Core.List.{List, [], ◌∷◌, ◌++◌, append_assoc}
use mathlib.Core.Option.{none, some}
use Prim.Native.Nat.{ℕ, ◌+◌, ◌-◌, ◌≤◌, ◌<◌}
use native.Mathlib.Omega.{arith}
use lib.Dec.{eqb, ltb, leb}
use lib.ListN.{length, get_or, take, drop, length-append, length-drop, take-append-drop}
use lib.Seq.{length-take-le, drop_at, take-append-le, drop-append-le, take-append-add}
use lib.Seq.{drop-drop, take-append_seam}
use borrow.Author.Tests.{eq-eqb, ne_eqb, lt-ltb, leb-true}
use Rattle.slices.specs.Choice.{pick}
use Rattle.slices.specs.Writing.{put, laid}
use Rattle.slices.proofs.Choice.{pick_yes, pick_no, picked}
use Rattle.slices.proofs.Writing.{put_length, put_step, laid_fits}
use Rattle.slices.specs.Tests.{is_some}
use Rattle.session_records.specs.Slots.{read, cell_in, kept_at}
use Rattle.session_records.specs.declared.Slot.{Slot}

pub read_none : (c : List ℕ) → get_or c 0 0 ≡ 0 → read c ≡ none
unfolding read
read_none [] e = refl
read_none (n ∷ v) e = pick_yes _ _ _ (eq-eqb n 0 e)

pub read_some : (c : List ℕ) → (get_or c 0 0 ≡ 0 → ⊥) → read c ≡ some (take (get_or c 0 0 - 1) (drop 1 c))
unfolding read
read_some [] e = absurd (e refl)
read_some (n ∷ v) e = pick_no _ _ _ (ne_eqb n 0 e)

pub read_has : (c : List ℕ) → not (eqb (get_or c 0 0) 0) ≡ is_some (read c)
unfolding read is_some pick
read_has [] = refl
read_has (n ∷ v) = go (eqb n 0)
  where
    go : (t : Bool) → not t ≡ is_some (pick t none (some (take (n - 1) v)))
    go true = refl
    go false = refl

-- a write of two parts
pub kept_put : (slot : Slot) (v d : List ℕ) → length v < slot.size → slot.at + slot.size ≤ length d
    → kept_at slot v d ≡ put ((length v + 1) ∷ v) slot.at d
unfolding kept_at
kept_put slot v d f h =
    let n : List ℕ = (length v + 1) ∷ [] in
    let z = put_length n slot.at d (omega arith) in
    pick_yes _ _ _ (lt-ltb _ _ f)
    ∙ (ap (laid v (slot.at + 1)) (laid_fits n slot.at d (omega arith))
    ∙ (laid_fits v (slot.at + 1) (put n slot.at d) (omega (arith, z))
    ∙ sym (put_step n v slot.at d (omega arith))))

pub laid_length : (s : List ℕ) (p : ℕ) (d : List ℕ) → length (laid s p d) ≡ length d
unfolding laid
laid_length s p d =
    picked (λ l. length l ≡ length d) (leb (p + length s) (length d)) (put s p d) d
    (λ y. put_length s p d (leb-true _ _ y))
    (λ n. refl)

pub kept_length : (slot : Slot) (v d : List ℕ) → length (kept_at slot v d) ≡ length d
unfolding kept_at
kept_length slot v d =
    let n : List ℕ = (length v + 1) ∷ [] in
    picked (λ l. length l ≡ length d) (ltb (length v) slot.size) (laid v (slot.at + 1) (laid n slot.at d)) d
    (λ y. laid_length v (slot.at + 1) (laid n slot.at d) ∙ laid_length n slot.at d)
    (λ n. refl)

-- a value that was kept is read again
read_kept : (v x : List ℕ) → read ((length v + 1) ∷ (v ++ x)) ≡ some v
unfolding read
read_kept v x =
    pick_no _ _ _ (ne_eqb (length v + 1) 0 (λ e. omega arith))
    ∙ (let e : length v + 1 - 1 ≡ length v = omega arith in ap some (ap (λ (k : ℕ). take k (v ++ x)) e ∙ take-append_seam v x))

pub read_put : (slot : Slot) (v d : List ℕ) → length v < slot.size → slot.at + slot.size ≤ length d
    → read (cell_in (put ((length v + 1) ∷ v) slot.at d) slot) ≡ some v
unfolding cell_in put
read_put slot v d f h =
    let c : List ℕ = (length v + 1) ∷ v in
    let r = drop (length c) (drop slot.at d) in
    let k = slot.size - length c in
    let e : slot.size ≡ length c + k = omega arith in
    ap (λ l. read (take slot.size l)) (drop_at (take slot.at d) (c ++ r) slot.at (length-take-le slot.at d (omega arith)))
    ∙ (ap (λ (n : ℕ). read (take n (c ++ r))) e
    ∙ (ap read (take-append-add c r k)
    ∙ read_kept v (take k r)))

-- a write leaves what lies before it and behind it
front : (n p : ℕ) (x y : List ℕ) → p + n ≤ length x → take n (drop p (x ++ y)) ≡ take n (drop p x)
front n p x y h = ap (take n) (drop-append-le p x y (omega arith)) ∙ take-append-le n (drop p x) y (rw length-drop (omega arith))

pub put_before : (n p : ℕ) (c : List ℕ) (at : ℕ) (d : List ℕ) → p + n ≤ at → at ≤ length d
    → take n (drop p (put c at d)) ≡ take n (drop p d)
unfolding put
put_before n p c at d h k =
    let z = length-take-le at d k in
    front n p (take at d) (c ++ drop (length c) (drop at d)) (omega arith)
    ∙ (sym (front n p (take at d) (drop at d) (omega arith)) ∙ ap (λ l. take n (drop p l)) (take-append-drop at d))

pub put_behind : (p : ℕ) (c : List ℕ) (at : ℕ) (d : List ℕ) → at + length c ≤ p → at + length c ≤ length d → drop p (put c at d) ≡ drop p d
unfolding put
put_behind p c at d h k =
    let m = p - (at + length c) in
    let e : p ≡ at + length c + m = omega arith in
    let z = length-take-le at d (omega arith) in
    let r = drop (length c) (drop at d) in
    let same : drop (at + length c) (take at d ++ (c ++ r)) ≡ drop (at + length c) d =
    ap (drop (at + length c)) (sym (append_assoc (take at d) c r))
    ∙ (drop_at (take at d ++ c) r (at + length c) (rw length-append (omega arith)) ∙ drop-drop (length c) at d) in
    ap (λ (n : ℕ). drop n (take at d ++ (c ++ r))) e
    ∙ (sym (drop-drop m (at + length c) (take at d ++ (c ++ r)))
    ∙ (ap (drop m) same
    ∙ (drop-drop m (at + length c) d
    ∙ ap (λ (n : ℕ). drop n d) (sym e))))
