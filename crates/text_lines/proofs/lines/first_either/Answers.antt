-- `lines::first_either` meets its contract: a byte that is one of the two ends it, any other is passed.
-- Assumes nothing.
use mathlib.Core.Path.{◌≡◌}
use native.Mathlib.Omega.{arith}
use Rattle.text_lines.specs.Lines.{first_either}
use Rattle.text_lines.proofs.Ends.{stop_first, stop_second, pass, at_end_lem}
use Rattle.text_lines.proofs.lines.first_either.Goals as goal
use Rattle.text_lines.proofs.lines.first_either.Goals.{then-s-i-via-then-s-i, then-s-i-via-else-s-i+then-s-i-2}

pub returns-then-s-i : goal.returns-then-s-i
unfolding first_either
returns-then-s-i c =
    let a = c.args in
    let i = c.loop-i.i in
    elim c.then-s-i.branch [
      | then-s-i-via-then-s-i w ↦
          (let here = stop_first a.a a.b a.s.now i (omega arith) w.if-s-i.true in (omega arith, (omega arith, omega arith)))
      | then-s-i-via-else-s-i+then-s-i-2 w ↦
          (let here = stop_second a.a a.b a.s.now i (omega arith) w.if-s-i-2.true in (omega arith, (omega arith, omega arith)))
    ]

pub loop-i-preserved : goal.loop-i-preserved
loop-i-preserved c =
    let a = c.args in
    let i = c.loop-i.i in
    let on = pass a.a a.b a.s.now i (omega arith) c.if-s-i.false c.if-s-i-2.false in
    (omega arith, (omega arith, omega arith))

pub returns : goal.returns
unfolding first_either
returns c =
    let a = c.args in
    let end = at_end_lem a.a a.b a.s.now c.loop-i.i (omega arith) in
    let place : c.max.result ≡ c.loop-i.i = omega arith in
    (omega arith, (omega arith, omega arith))
