-- `answer_cryptogram::cryptogram_read` meets its contract: the first byte of what is read by place.
-- Assumes nothing.
use mathlib.Core.Path.{ap, ◌∙◌}
use mathlib.Core.List.{List}
use Prim.Native.Nat.{ℕ}
use lib.ListN.{get_or}
use Rattle.decide_cryptogram.specs.Cryptograms.{given_by}
use Rattle.answer_cryptogram.specs.Cryptogram.{cryptogram_read}
use Rattle.answer_cryptogram.proofs.cryptogram_read.Goals as goal

pub returns : goal.returns
unfolding cryptogram_read
returns c =
    let first = c.byte.ensures.0 ∙ ap (λ (s : List ℕ). get_or s 0 0) c.read_form.ensures in
    c.given_by.ensures ∙ ap given_by first
