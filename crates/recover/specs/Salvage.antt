-- What can still be read of a tape, whatever happened to it (02, R-9): the whole blocks, counted in steps from the start, whose check is
-- right and whose content is in order, each with the numbers that it carries itself.
-- Assumes nothing.
use Rattle.std.specs.Prelude.{Bool, List, [], ◌∷◌, Option, None, Some, ℕ, ◌+◌, ◌*◌, ◌%◌, eqb, length, take, drop}
use Rattle.slices.specs.Choice.{pick, first_of}
use Rattle.numbers.specs.Tables.{code_check}
use Rattle.tape_read.specs.Entries.{block_size}
use Rattle.tape_read.specs.Blocks.{number_in, session_in, kind_in, payload_at, payload_in, check_bad, content_tests}
use Rattle.tape_read.specs.Tapes.{blocks_of}
use Rattle.recover.specs.declared.Block.{Block}

-- the check (code 3) and the content (6 to 9) are right; which block number (4) and session number (5) it has is not asked
unfoldable pub is_good : List ℕ → Bool
is_good b = eqb (first_of ((check_bad b, code_check) ∷ content_tests b)) 0

-- a good block: the step it stands at, counted from 0, and what it says
pub record Salvaged : Type 0 where
  pub step : ℕ
  pub number : ℕ
  pub session : ℕ
  pub kind : ℕ
  pub payload : List ℕ

abbrev pub salvage : ℕ → ℕ → ℕ → ℕ → List ℕ → Salvaged
salvage step number session kind payload =
    record { step = step; number = number; session = session; kind = kind; payload = payload }

abbrev pub standing : ℕ → List ℕ → Salvaged
standing n b = salvage n (number_in b) (session_in b) (kind_in b) (payload_in b)

-- the good ones of some blocks, the first of which stands at step n
unfoldable pub good_of : ℕ → List (List ℕ) → List Salvaged
good_of n [] = []
good_of n (b ∷ bs) = pick (is_good b) (standing n b ∷ good_of (n + 1) bs) (good_of (n + 1) bs)

-- the good blocks of any bytes
unfoldable pub salvaged : List ℕ → List Salvaged
salvaged t = good_of 0 (blocks_of t)

-- how many bytes are left over after the last whole step
abbrev pub tail_of : List ℕ → ℕ
tail_of t = length t % block_size

-- ---- from one good block to the next

abbrev pub block : ℕ → ℕ → ℕ → ℕ → ℕ → ℕ → Block
block step number session kind start size =
    record { step = step; number = number; session = session; kind = kind; start = start; size = size }

-- a good block as it is told: its numbers and kind, and where in the bytes its payload starts and how long it is
abbrev pub told : ℕ → List ℕ → Block
told n b = block n (number_in b) (session_in b) (kind_in b) (n * block_size + payload_at) (length (payload_in b))

unfoldable pub first_good : ℕ → List (List ℕ) → Option Block
first_good n [] = None
first_good n (b ∷ bs) = pick (is_good b) (Some (told n b)) (first_good (n + 1) bs)

-- the next good block at or after a step
unfoldable pub next_from : List ℕ → ℕ → Option Block
next_from t step = first_good step (blocks_of (drop (step * block_size) t))

-- the payload of what was found: that part of the bytes themselves
abbrev pub payload_of : List ℕ → Option Block → List ℕ
payload_of t (Some b) = take b.size (drop b.start t)
payload_of t None = []
