-- Damage to a tape: blocks overwritten in place, stores that were torn, and what is left of the tape's blocks (02, R-9).
-- Assumes nothing.
use Rattle.std.specs.Prelude.{◌≡◌, Bool, true, false, ◌&&◌, List, [], ◌∷◌, ℕ, ◌+◌, ◌*◌, ◌/◌, ◌<◌, eqb, leb, ltb, length, take}
use Rattle.slices.specs.Choice.{pick}
use Rattle.slices.specs.Writing.{put}
use Rattle.tape_read.specs.Entries.{Entry, block_size}
use Rattle.tape_read.specs.Blocks.{check_bad}
use Rattle.tape_read.specs.Tapes.{block_at}
use Rattle.recover.specs.Salvage.{Salvaged, salvage}

-- u is t with the marked steps overwritten in place, and no marked step passes the check afterwards
pub record Overwritten (hit : ℕ → Bool) (t u : List ℕ) : Type 0 where
  pub size : length u ≡ length t
  pub kept : (k : ℕ) → hit k ≡ false → block_at k u ≡ block_at k t
  pub fails : (k : ℕ) → k < length t / block_size → hit k ≡ true → check_bad (block_at k u) ≡ true

-- the first marked step
pub record FirstHit (hit : ℕ → Bool) (k : ℕ) : Type 0 where
  pub here : hit k ≡ true
  pub before : (j : ℕ) → j < k → hit j ≡ false

-- the blocks at steps without a mark
unfoldable pub untouched : (ℕ → Bool) → List Salvaged → List Salvaged
untouched hit [] = []
untouched hit (b ∷ bs) = pick (hit b.step) (untouched hit bs) (b ∷ untouched hit bs)

-- the blocks of a good tape of these entries: each with the number of the step it stands at, the first of them n
unfoldable pub listed : ℕ → ℕ → List Entry → List Salvaged
listed n session [] = []
listed n session (e ∷ es) = salvage n n session e.kind e.payload ∷ listed (n + 1) session es

-- ---- stores

-- bytes stored from the start of a step on
pub record Store : Type 0 where
  pub step : ℕ
  pub bytes : List ℕ

-- a store that was torn: only a beginning of its bytes got there
abbrev pub torn : ℕ → Store → Store
torn n w = record { step = w.step; bytes = take n w.bytes }

-- one after the other
unfoldable pub stored : List Store → List ℕ → List ℕ
stored [] t = t
stored (w ∷ ws) t = stored ws (put w.bytes (w.step * block_size) t)

-- each within one of so many steps
unfoldable pub in_place : ℕ → List Store → Bool
in_place n [] = true
in_place n (w ∷ ws) = (ltb w.step n && leb (length w.bytes) block_size) && in_place n ws

-- the steps that some store went to
unfoldable pub struck : List Store → ℕ → Bool
struck [] k = false
struck (w ∷ ws) k = pick (eqb k w.step) true (struck ws k)
