-- `book_block::long_at` meets its contract: a part begins with the number at its place. Assumes nothing.
use mathlib.Core.Path.{ap, ◌∙◌}
use mathlib.Core.List.{List}
use Prim.Native.Nat.{ℕ}
use Rattle.tape_read.specs.Blocks.{field}
use Rattle.book_block.proofs.Filling.{field_part}
use Rattle.book_block.proofs.long_at.Goals as goal

pub returns : goal.returns
returns c =
    let a = c.args in
    c.number.ensures ∙ (ap (λ (s : List ℕ). field 0 4 s) c.part.ensures ∙ field_part a.at a.b.now)
