-- `tape_write::head_bytes` meets its contract: two numbers of four bytes, the kind, a zero and a number of two.
-- Assumes nothing.
use mathlib.Core.Path.{◌≡◌, sym, ap, ap₂}
use mathlib.Core.List.{List, [], ◌∷◌, ◌++◌}
use Prim.Native.Nat.{ℕ, ◌/◌, ◌%◌}
use native.Mathlib.Nat.{div-one}
use lib.ListN.{length, get_or}
use Rattle.tape_read.specs.Numbers.{bytes_of}
use Rattle.tape_read.specs.Blocks.{head}
use Rattle.tape_write.proofs.head_bytes.Goals as goal

-- the elements of an array of four
four : List ℕ → List ℕ
four l = get_or l 0 0 ∷ get_or l 1 0 ∷ get_or l 2 0 ∷ get_or l 3 0 ∷ []

four_bytes_all : (l : List ℕ) (n : ℕ) → l ≡ bytes_of 4 n → four l ≡ bytes_of 4 n
unfolding four bytes_of
four_bytes_all l n e = ap four e

pub returns : goal.returns
unfolding head four bytes_of
returns c =
    let a = c.args in
    let n = length a.payload.now in
    ap₂ ◌++◌ (four_bytes_all _ a.number c.four_bytes-a.ensures)
    (ap₂ ◌++◌ (four_bytes_all _ a.session c.four_bytes-s.ensures)
    (ap (λ (low : ℕ). a.kind ∷ 0 ∷ n / 256 % 256 ∷ low % 256 ∷ []) (sym (div-one n))))
