-- `book_block::head_bytes` meets its contract: four numbers of four bytes, and the verdict and three zeros between them.
-- Assumes nothing.
use mathlib.Core.Path.{◌≡◌, ap, ap₂}
use mathlib.Core.List.{List, [], ◌∷◌, ◌++◌}
use Prim.Native.Nat.{ℕ}
use lib.ListN.{get_or}
use Rattle.tape_read.specs.Numbers.{bytes_of}
use Rattle.book_block.specs.Blocks.{head}
use Rattle.book_block.proofs.head_bytes.Goals as goal

-- the elements of an array of four
four : List ℕ → List ℕ
four l = get_or l 0 0 ∷ get_or l 1 0 ∷ get_or l 2 0 ∷ get_or l 3 0 ∷ []

four_bytes_all : (l : List ℕ) (n : ℕ) → l ≡ bytes_of 4 n → four l ≡ bytes_of 4 n
unfolding four bytes_of
four_bytes_all l n e = ap four e

pub returns : goal.returns
unfolding head four bytes_of
returns c =
    let a = c.args in
    ap₂ ◌++◌ (four_bytes_all _ a.n c.four_bytes-a.ensures)
    (ap₂ ◌++◌ (four_bytes_all _ a.e.tape c.four_bytes-t.ensures)
    (ap (λ (l : List ℕ). a.e.verdict ∷ 0 ∷ 0 ∷ 0 ∷ l)
    (ap₂ ◌++◌ (four_bytes_all _ a.e.place c.four_bytes-p.ensures) (four_bytes_all _ a.e.code c.four_bytes-c.ensures))))
