-- `text_hex::hex` meets its contract. The loop's invariant: the text of the first i bytes stands at the start of the
-- buffer, and the rest of it is as it was. Assumes nothing.
use mathlib.Core.Path.{refl, sym, ap, ap₂, ◌∙◌}
use mathlib.Core.List.{List}
use Prim.Native.Nat.{ℕ, ◌+◌, ◌*◌, zero-le}
use native.Mathlib.Omega.{arith}
use lib.ListN.{take, set, length-set}
use Rattle.slices.specs.Writing.{put}
use Rattle.slices.proofs.Writing.{put_nothing}
use Rattle.text_hex.specs.Digits.{hexed}
use Rattle.text_hex.proofs.Printing.{printed, printed_all}
use Rattle.text_hex.proofs.hex.Goals as goal

pub loop-i-init : goal.loop-i-init
unfolding hexed
loop-i-init c = (zero-le, refl, sym (put_nothing 0 c.args.dst.now))

pub returns-then-dst-i : goal.returns-then-dst-i
returns-then-dst-i c =
    let a = c.args in
    let l = c.loop-i in
    let all = printed_all a.src.now a.dst.now l.i (omega arith) in
    record { size = (all.0, omega arith); text = l.invariant.2 ∙ all.1 }

pub bounds-dst-i-in-loop-i : goal.bounds-dst-i-in-loop-i
bounds-dst-i-in-loop-i c = simp length-set (omega arith)

pub loop-i-preserved : goal.loop-i-preserved
loop-i-preserved c =
    let a = c.args in
    let l = c.loop-i in
    let stores : List ℕ → ℕ → ℕ → List ℕ = λ d x y. set (set d (2 * l.i) x) (2 * l.i + 1) y in (
      omega arith,
      simp length-set (omega arith),
      ap (λ (d : List ℕ). stores d c.digit_for.result c.digit_for-in-loop-i.result) l.invariant.2
          ∙ (ap₂ (stores (put (hexed (take l.i a.src.now)) 0 a.dst.now)) c.digit_for.ensures c.digit_for-in-loop-i.ensures
          ∙ printed a.src.now l.i (omega arith) a.dst.now (omega arith)),
    )

pub returns : goal.returns
returns c =
    let a = c.args in
    let l = c.loop-i in
    let all = printed_all a.src.now a.dst.now l.i (omega arith) in
    record { size = (omega (arith, all.0), omega arith); text = l.invariant.2 ∙ all.1 }
