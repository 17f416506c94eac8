-- `answer_cryptogram::cryptogram` meets its contract: what the first byte gives.
-- Assumes nothing.
use mathlib.Core.Path.{ap, ◌∙◌}
use mathlib.Core.List.{List}
use Prim.Native.Nat.{ℕ}
use lib.ListN.{get_or}
use Rattle.decide_cryptogram.specs.Cryptograms.{given_by}
use Rattle.answer_cryptogram.specs.Cryptogram.{cryptogram_of}
use Rattle.answer_cryptogram.proofs.cryptogram.Goals as goal

pub returns : goal.returns
unfolding cryptogram_of
returns c =
    let first = c.byte.ensures.0 ∙ ap (λ (s : List ℕ). get_or s 0 0) c.information.ensures in
    c.given_by.ensures ∙ ap given_by first
