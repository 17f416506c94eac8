-- `takes` meets its contract: each way out is a line of the definition, at what is left of the piece. Assumes nothing.
use mathlib.Core.Path.{◌≡◌, sym, ap, ◌∙◌}
use Prim.Native.Nat.{ℕ}
use native.Mathlib.Omega.{arith}
use lib.ListN.{length}
use Rattle.t0.specs.Steps.{stepped}
use Rattle.t0_pieces.proofs.Taking.{taken_closed, taken_on, taken_last, taken_all_lem, stayed}
use Rattle.t0_pieces.specs.Pieces.{here}
use Rattle.t0_pieces.proofs.takes.Goals as goal

pub returns-then-is_closed : goal.returns-then-is_closed
returns-then-is_closed c =
    let l = c.loop-i in
    stayed l.out l.answer c.stays.ensures.0 c.stays.ensures.1 c.stays.ensures.2
    ∙ (sym (taken_closed l.state c.args.piece.now l.out l.answer l.i c.loop-i-test.true (sym c.is_closed.ensures ∙ c.if-is_closed.true))
    ∙ l.invariant)

pub returns-then-not-is_quiet : goal.returns-then-not-is_quiet
returns-then-not-is_quiet c =
    let l = c.loop-i in
    let t = c.step-t in
    sym (taken_last l.state c.args.piece.now l.out l.answer l.i c.loop-i-test.true (sym c.is_closed.ensures ∙ c.if-is_closed.false)
    (stepped t.result t.new.out t.new.answer) t.ensures (sym c.is_quiet.ensures ∙ c.if-not-is_quiet.true))
    ∙ l.invariant

pub loop-i-preserved : goal.loop-i-preserved
loop-i-preserved c =
    let l = c.loop-i in
    let t = c.step-t in
    sym (taken_on l.state c.args.piece.now l.out l.answer l.i c.loop-i-test.true (sym c.is_closed.ensures ∙ c.if-is_closed.false)
    (stepped t.result t.new.out t.new.answer) t.ensures (sym c.is_quiet.ensures ∙ c.if-not-is_quiet.false))
    ∙ l.invariant

pub returns : goal.returns
returns c =
    let l = c.loop-i in
    let piece = c.args.piece.now in
    let whole : l.i ≡ length piece = omega arith in
    stayed l.out l.answer c.stays-2.ensures.0 c.stays-2.ensures.1 c.stays-2.ensures.2
    ∙ (ap (λ (n : ℕ). here n l.state l.out l.answer) (sym whole)
    ∙ (sym (taken_all_lem l.state piece l.out l.answer l.i (omega arith)) ∙ l.invariant))
