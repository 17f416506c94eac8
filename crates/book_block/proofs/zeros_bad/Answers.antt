-- `book_block::zeros_bad` meets its contract: both runs are compared with zeros. Assumes nothing.
use Rattle.std.proofs.Common.{◌≡◌, sym, ap, ◌∙◌, Bool, not, ◌&&◌, List, ℕ, take, drop}
use Rattle.slices.specs.Tests.{alike}
use Rattle.slices.specs.Writing.{zeros}
use Rattle.book_block.specs.Blocks.{padding, padding_at, zeros_bad}
use Rattle.book_block.proofs.zeros_bad.Goals as goal
use Rattle.book_block.proofs.zeros_bad.Goals.{then-alike, else-alike}

pub returns : goal.returns
unfolding zeros_bad zeros
returns c =
    let b = c.args.b.now in
    let spare : c.alike.result ≡ alike (take 3 (drop 9 b)) (zeros 3) =
    c.alike.ensures ∙ ap (λ (s : List ℕ). alike s (zeros 3)) c.part.ensures
    in
    let both = λ (t : Bool). t && alike (take padding (drop padding_at b)) (zeros padding) in
    ap not
    (elim c.if-alike.branch [
      | then-alike w ↦ w.result-is
          ∙ (w.alike-then-alike.ensures ∙ (ap (λ (s : List ℕ). alike s (zeros padding)) w.part-then-alike.ensures
          ∙ ap both (sym w.if-alike.true ∙ spare)))
      | else-alike w ↦ w.result-is ∙ (w.if-alike.false ∙ ap both (sym w.if-alike.false ∙ spare))
    ])
