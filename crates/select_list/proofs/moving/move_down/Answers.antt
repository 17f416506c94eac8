-- `moving::move_down` meets its contract. The loop's invariant: the first i bytes stand in their new place, and the others as they did.
-- Assumes nothing.
use mathlib.Core.Path.{◌≡◌, refl, sym, ap, ◌∙◌}
use mathlib.Core.List.{List}
use Prim.Native.Nat.{ℕ, ◌+◌, ◌≤◌, ◌<◌}
use native.Mathlib.Omega.{arith}
use native.Mathlib.Numerals.{add-one}
use lib.ListN.{length, get_or, drop, set, length-set, length-drop}
use lib.Seq.{length-take-le, get_or-take, get_or-drop, paste, paste-zero, paste-suc}
use Rattle.slices.proofs.Writing.{put_pasted}
use Rattle.select_list.proofs.Bytes.{paste_behind}
use Rattle.select_list.proofs.moving.move_down.Invariants.{moved}
use Rattle.select_list.proofs.moving.move_down.Goals as goal

moved_length : (d : List ℕ) (from n : ℕ) → from + n ≤ length d → length (moved d from n) ≡ n
moved_length d from n h = length-take-le n (drop from d) (let z = length-drop from d in omega arith)

turn : (d : List ℕ) (at n by i : ℕ) → at + by + n ≤ length d → i < n
    → set (paste d at (moved d (at + by) n) i) (at + i) (get_or (paste d at (moved d (at + by) n) i) (at + by + i) 0)
    ≡ paste d at (moved d (at + by) n) (i + 1)
turn d at n by i h k =
    let s = moved d (at + by) n in
    let size = moved_length d (at + by) n (omega arith) in
    let old : get_or (paste d at s i) (at + by + i) 0 ≡ get_or s i 0 =
    paste_behind d at s i (at + by + i) (omega arith) (omega arith) (omega arith)
    ∙ sym (get_or-take n (drop (at + by) d) i 0 k ∙ get_or-drop (at + by) d i 0) in
    ap (λ (v : ℕ). set (paste d at s i) (at + i) v) old
    ∙ (paste-suc d at s i 0 (omega arith) (omega arith) ∙ ap (paste d at s) (sym (add-one i)))

pub loop-i-init : goal.loop-i-init
loop-i-init c =
    let a = c.args in
    (omega arith, omega arith, refl, paste-zero a.buf.now a.at (moved a.buf.now (a.at + a.by) a.n))

pub loop-i-preserved : goal.loop-i-preserved
loop-i-preserved c =
    let l = c.loop-i in
    let a = c.args in (
      omega arith,
      omega arith,
      simp length-set (omega arith),
      ap (λ (d : List ℕ). set d (a.at + l.i) (get_or d (a.at + a.by + l.i) 0)) l.invariant.3
          ∙ turn a.buf.now a.at a.n a.by l.i (omega arith) (omega arith),
    )

pub returns : goal.returns
returns c =
    let l = c.loop-i in
    let a = c.args in
    let s = moved a.buf.now (a.at + a.by) a.n in
    let size = moved_length a.buf.now (a.at + a.by) a.n (omega arith) in
    let end : l.i ≡ length s = omega arith in
    l.invariant.3 ∙ (ap (paste a.buf.now a.at s) end ∙ sym (put_pasted s a.at a.buf.now))
