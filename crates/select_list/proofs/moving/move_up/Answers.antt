-- `moving::move_up` meets its contract. The loop's invariant: the bytes from i on stand in their new place, and the others as they did.
-- Assumes nothing.
use mathlib.Core.Path.{◌≡◌, refl, sym, ap, ap₂, ◌∙◌}
use mathlib.Core.List.{List, ◌∷◌}
use Prim.Native.Nat.{ℕ, ◌+◌, ◌-◌, ◌≤◌, ◌<◌}
use native.Mathlib.Omega.{arith}
use native.Mathlib.Numerals.{add-one}
use lib.ListN.{length, get_or, drop, set, length-set, length-drop, drop_of_length-le}
use lib.Seq.{drop-cons, length-take-le, get_or-take, get_or-drop}
use Rattle.slices.specs.Writing.{put}
use Rattle.slices.proofs.Writing.{put_nothing}
use Rattle.select_list.proofs.Bytes.{put_before, put_one_more}
use Rattle.select_list.proofs.moving.move_up.Invariants.{moved}
use Rattle.select_list.proofs.moving.move_up.Goals as goal

moved_length : (d : List ℕ) (at n : ℕ) → at + n ≤ length d → length (moved d at n) ≡ n
moved_length d at n h = length-take-le n (drop at d) (let z = length-drop at d in omega arith)

-- one byte more, from the last on
turn : (d : List ℕ) (at n by j : ℕ) → at + by + n ≤ length d → j < n
    → set (put (drop (j + 1) (moved d at n)) (at + by + (j + 1)) d) (at + by + j)
    (get_or (put (drop (j + 1) (moved d at n)) (at + by + (j + 1)) d) (at + j) 0)
    ≡ put (drop j (moved d at n)) (at + by + j) d
turn d at n by j h k =
    let s = moved d at n in
    let size = moved_length d at n (omega arith) in
    let old : get_or (put (drop (j + 1) s) (at + by + (j + 1)) d) (at + j) 0 ≡ get_or s j 0 =
    put_before (drop (j + 1) s) (at + by + (j + 1)) d (at + j) (omega arith) (omega arith)
    ∙ sym (get_or-take n (drop at d) j 0 k ∙ get_or-drop at d j 0) in
    let place : at + by + (j + 1) ≡ at + by + j + 1 = omega arith in
    ap₂ (λ (p v : ℕ). set (put (drop (j + 1) s) p d) (at + by + j) v) place old
    ∙ (put_one_more (get_or s j 0) (drop (j + 1) s) (at + by + j) d (omega arith)
    ∙ ap (λ l. put l (at + by + j) d)
    (ap (λ (m : ℕ). get_or s j 0 ∷ drop m s) (add-one j) ∙ sym (drop-cons s j 0 (omega arith))))

pub loop-i-init : goal.loop-i-init
loop-i-init c =
    let a = c.args in
    let d = a.buf.now in
    let size = moved_length d a.at a.n (omega arith) in (
      omega arith,
      omega arith,
      refl,
      sym (ap (λ l. put l (a.at + a.by + a.n) d) (drop_of_length-le (moved d a.at a.n) {i = a.n} (omega arith))
          ∙ put_nothing (a.at + a.by + a.n) d),
    )

pub loop-i-preserved : goal.loop-i-preserved
loop-i-preserved c =
    let l = c.loop-i in
    let a = c.args in
    let d = a.buf.now in
    let s = moved d a.at a.n in
    let j = l.i - 1 in
    let e : l.i ≡ j + 1 = omega arith in (
      omega arith,
      omega arith,
      simp length-set (omega arith),
      ap (λ (x : List ℕ). set x (a.at + a.by + j) (get_or x (a.at + j) 0))
          (l.invariant.3 ∙ ap (λ (m : ℕ). put (drop m s) (a.at + a.by + m) d) e)
          ∙ turn d a.at a.n a.by j (omega arith) (omega arith),
    )

pub returns : goal.returns
returns c =
    let l = c.loop-i in
    let a = c.args in
    let d = a.buf.now in
    let end : l.i ≡ 0 = omega arith in
    let place : a.at + a.by + 0 ≡ a.at + a.by = omega arith in
    l.invariant.3
    ∙ (ap (λ (m : ℕ). put (drop m (moved d a.at a.n)) (a.at + a.by + m) d) end
    ∙ ap (λ (p : ℕ). put (moved d a.at a.n) p d) place)
