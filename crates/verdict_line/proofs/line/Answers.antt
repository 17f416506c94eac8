-- `verdict_line::line` meets its contract: the word, the three fields and the line feed stand one after the other at the start of the
-- text, which is then laid into the buffer whole.
-- Assumes nothing.
use mathlib.Core.Path.{ap, ◌∙◌}
use mathlib.Core.List.{List}
use Prim.Native.Nat.{ℕ}
use native.Mathlib.Omega.{arith}
use Rattle.slices.specs.Writing.{laid, zeros}
use Rattle.verdict_line.proofs.Printing.{field_most, line_length, line_laid, line_taken}
use Rattle.verdict_line.proofs.line.Goals as goal

pub returns-clause-text : goal.returns-clause-text
unfolding zeros
returns-clause-text c =
    let a = c.args.found in
    let w = c.lay_word-word in
    let f = c.lay_field-first in
    let g = c.lay_field-second in
    let h = c.lay_field-end in
    let first = field_most a.ruling.place (omega arith) in
    let second = field_most a.ruling.code (omega arith) in
    let third = field_most a.zeros (omega arith) in
    let whole = line_length a in
    let text =
    line_laid a (zeros 80) w.new.text f.new.text g.new.text h.new.text w.result f.result g.result h.result
    w.ensures.size.0 f.ensures.place g.ensures.place h.ensures.place (omega arith) w.ensures.word
    f.ensures.field g.ensures.field h.ensures.field
    in
    c.lay.ensures ∙ ap (λ (l : List ℕ). laid l 0 c.args.buf.now) (line_taken a (zeros 80) _ _ (omega arith) text)
