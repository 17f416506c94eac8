-- `lines::after_word` meets its contract: behind a word that ends before the text does, one byte is left out; behind one that
-- ends with it nothing is left.
-- Assumes nothing.
use mathlib.Core.Path.{sym, ap, ◌∙◌}
use Prim.Native.Nat.{ℕ, ◌+◌}
use native.Mathlib.Omega.{arith}
use lib.ListN.{drop, drop_of_length-le}
use Rattle.slices.proofs.Cutting.{rest_part}
use Rattle.text_lines.specs.Lines.{after_word}
use Rattle.text_lines.proofs.lines.after_word.Goals as goal

pub returns-then-end-s : goal.returns-then-end-s
unfolding after_word
returns-then-end-s c =
    let s = c.args.s.now in
    let word = c.word_end-end in
    rest_part s (word.result + 1) ∙ ap (λ (n : ℕ). drop (n + 1) s) word.ensures.0

pub returns : goal.returns
unfolding after_word
returns c =
    let s = c.args.s.now in
    let word = c.word_end-end in
    rest_part s word.result
    ∙ (drop_of_length-le s {i = word.result} (omega arith)
    ∙ (sym (drop_of_length-le s {i = word.result + 1} (omega arith)) ∙ ap (λ (n : ℕ). drop (n + 1) s) word.ensures.0))
