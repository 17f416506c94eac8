-- `place::value` meets its contract: the part is there whole, or cut at the end of the bytes, or empty.
-- Assumes nothing.
use mathlib.Core.Path.{◌≡◌, sym, ap, ◌∙◌}
use Prim.Native.Nat.{ℕ, ◌-◌}
use lib.ListN.{take, drop}
use Rattle.tlv_list.specs.Objects.{between}
use native.Mathlib.Omega.{arith}
use Rattle.tlv_list.proofs.place.value.Goals as goal

pub returns-then-end-start : goal.returns-then-end-start
unfolding between
returns-then-end-start c =
    let a = c.args in
    let none_left : a.end - a.start ≡ 0 = omega arith in
    c.part.ensures ∙ sym (ap (λ (n : ℕ). take n (drop a.start a.s.now)) none_left)

pub returns : goal.returns
unfolding between
returns c = c.part-2.ensures
