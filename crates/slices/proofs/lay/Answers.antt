-- `slices::lay` meets its contract: where the bytes do not fit nothing changes; else the loop writes them one after the other.
-- Assumes nothing.
use mathlib.Core.Path.{◌≡◌, refl, sym, ◌∙◌, ap}
use mathlib.Core.List.{List}
use Prim.Native.Nat.{ℕ, ◌<◌, ◌+◌}
use native.Mathlib.Omega.{arith}
use native.Mathlib.Numerals.{add-one}
use lib.ListN.{length, get_or, set, length-set}
use lib.Seq.{paste, paste-zero, paste-suc}
use Rattle.slices.proofs.Writing.{laid_short, laid_fits, put_pasted}
use Rattle.slices.proofs.lay.Goals as goal

pub returns-then-buf-at : goal.returns-then-buf-at
returns-then-buf-at c = sym (laid_short _ _ _ (omega arith))

pub returns-then-buf-at-2 : goal.returns-then-buf-at-2
returns-then-buf-at-2 c = sym (laid_short _ _ _ (omega arith))

pub loop-i-init : goal.loop-i-init
loop-i-init c = (omega arith, refl, paste-zero c.args.buf.now c.args.at c.args.s.now)

pub loop-i-preserved : goal.loop-i-preserved
loop-i-preserved c =
    let a = c.args in
    let l = c.loop-i in
    let i<s : l.i < length a.s.now = omega arith in (
      omega arith,
      simp length-set (omega arith),
      ap (λ (d : List ℕ). set d (a.at + l.i) (get_or a.s.now l.i 0)) l.invariant.2
          ∙ (paste-suc a.buf.now a.at a.s.now l.i 0 (omega arith) i<s
          ∙ ap (paste a.buf.now a.at a.s.now) (sym (add-one l.i))),
    )

pub returns : goal.returns
returns c =
    let a = c.args in
    let l = c.loop-i in
    let end : l.i ≡ length a.s.now = omega arith in
    l.invariant.2
    ∙ (ap (paste a.buf.now a.at a.s.now) end
    ∙ sym (laid_fits a.s.now a.at a.buf.now (omega arith) ∙ put_pasted a.s.now a.at a.buf.now))
