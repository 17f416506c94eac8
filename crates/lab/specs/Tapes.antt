-- Blocks of a tape, as numbers: where the next one goes (01, "The tape"), and a good block of any bytes (02, R-9).
-- Assumes nothing.
use Rattle.std.specs.Prelude.{Bool, true, false, List, [], ◌∷◌, Option, None, Some, ℕ}
use Rattle.tape_write.specs.declared.Writer.{Writer}
use Rattle.recover.specs.declared.Block.{Block}

-- a writer that has so many blocks used
abbrev pub writer : ℕ → ℕ → Writer
writer used session = record { used = used; session = session }

unfoldable pub is_block : Option Block → Bool
is_block (Some b) = true
is_block None = false

-- a block's numbers in the place of those before; where there is none, those before
unfoldable pub laid_block : Option Block → List ℕ → List ℕ
laid_block (Some b) before = b.step ∷ b.number ∷ b.session ∷ b.kind ∷ b.start ∷ b.size ∷ []
laid_block None before = before
