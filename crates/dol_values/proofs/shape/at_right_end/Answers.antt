-- `shape::at_right_end` meets its contract: the room is blank, and the value or its end is laid at the room's end.
-- Assumes nothing.
use mathlib.Core.Path.{◌≡◌, ap, ◌∙◌}
use mathlib.Core.List.{List}
use Prim.Native.Nat.{ℕ, ◌-◌}
use lib.ListN.{length, take, drop, replicate, length-replicate, length-drop}
use lib.Seq.{take_all}
use native.Mathlib.Nat.{le_refl}
use Rattle.slices.specs.Writing.{laid}
use Rattle.dol_values.proofs.Shaping.{numeric_cut, numeric_filled}
use native.Mathlib.Omega.{arith}
use Rattle.dol_values.proofs.shape.at_right_end.Goals as goal

pub returns-then-part-v : goal.returns-then-part-v
returns-then-part-v c =
    let a = c.args in
    let v = a.v.now in
    let n = length a.part.now in
    let b = c.blank in
    let room : length b.new.buf ≡ n = ap length b.ensures ∙ length-replicate n 0 in
    let from = length v - length b.new.buf in
    c.lay.ensures
    ∙ (ap (λ (d : List ℕ). laid (take (length v - from) (drop from v)) 0 d) b.ensures
    ∙ (ap (λ (x : List ℕ). laid x 0 (replicate n 0)) (take_all (length v - from) (drop from v) (rw length-drop (le_refl _)))
    ∙ (ap (λ (m : ℕ). laid (drop (length v - m) v) 0 (replicate n 0)) room ∙ numeric_cut n v (omega arith))))

pub returns-else-part-v : goal.returns-else-part-v
returns-else-part-v c =
    let a = c.args in
    let v = a.v.now in
    let n = length a.part.now in
    let b = c.blank in
    let room : length b.new.buf ≡ n = ap length b.ensures ∙ length-replicate n 0 in
    c.lay-else-part-v.ensures
    ∙ (ap (λ (d : List ℕ). laid v (length d - length v) d) b.ensures
    ∙ (ap (λ (m : ℕ). laid v (m - length v) (replicate n 0)) (length-replicate n 0) ∙ numeric_filled n v (omega arith)))
