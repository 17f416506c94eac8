-- `shape::at_left_end` meets its contract: the room is blank, and the value or its beginning is laid at the room's start.
-- Assumes nothing.
use mathlib.Core.Path.{◌≡◌, sym, ap, ◌∙◌}
use mathlib.Core.List.{List}
use Prim.Native.Nat.{ℕ, min}
use lib.ListN.{length, take, replicate, length-replicate, length-take}
use Rattle.slices.specs.Writing.{laid}
use Rattle.dol_values.proofs.Shaping.{left_cut, left_filled}
use native.Mathlib.Omega.{arith}
use Rattle.dol_values.proofs.shape.at_left_end.Goals as goal

pub slice_bounds-lay-end : goal.slice_bounds-lay-end
slice_bounds-lay-end c =
    let v = c.args.v.now in
    let n = length c.blank.new.buf in
    sym (length-take n v ∙ (let e : min n (length v) ≡ n = omega arith in e))

pub returns-then-part-v : goal.returns-then-part-v
returns-then-part-v c =
    let room : length c.blank.new.buf ≡ length c.args.part.now =
    ap length c.blank.ensures
    ∙ length-replicate (length c.args.part.now)
    c.args.filler
    in
    let a = c.args in
    let v = a.v.now in
    let n = length a.part.now in
    let b = c.blank in
    let full = room in
    c.lay.ensures
    ∙ (ap (λ (d : List ℕ). laid (take (length d) v) 0 d) b.ensures
    ∙ (ap (λ (m : ℕ). laid (take m v) 0 (replicate n a.filler)) (length-replicate n a.filler)
    ∙ left_cut n v a.filler (omega arith)))

pub returns-else-part-v : goal.returns-else-part-v
returns-else-part-v c =
    let room : length c.blank.new.buf ≡ length c.args.part.now =
    ap length c.blank.ensures
    ∙ length-replicate (length c.args.part.now)
    c.args.filler
    in
    let a = c.args in
    let v = a.v.now in
    let n = length a.part.now in
    let full = room in
    c.lay-else-part-v.ensures
    ∙ (ap (λ (d : List ℕ). laid v 0 d) c.blank.ensures
    ∙ left_filled n v a.filler (omega arith))
