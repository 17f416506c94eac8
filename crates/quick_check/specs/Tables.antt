-- The stored numbers that a block's check is computed from, and the rule of each. What the check is (Check of tape_crc) does not rest on
-- them. Assumes nothing.
use Rattle.std.specs.Prelude.{◌≡◌, Bool, true, false, ◌&&◌, List, [], ◌∷◌, ℕ, ◌+◌, ◌*◌, ◌-◌, ◌%◌, eqb, ltb, length, get_or, take, drop}
use Rattle.slices.specs.Choice.{pick}
use Rattle.tape_crc.specs.Check.{shifted, divided}
use Rattle.tape_crc.specs.Tables.{every, leaves, moved}

-- each number of the last list is the one at the same place of the list before it, moved down by a byte
abbrev pub each_moved : List ℕ → List ℕ → List ℕ → Bool
each_moved first ts [] = true
each_moved first [] (u ∷ us) = false
each_moved first (t ∷ ts) (u ∷ us) = eqb u (moved first t) && each_moved first ts us

-- eight rows of 256 numbers: the first has what each byte leaves, and each other one what the row before it has, moved down by a byte
pub record Rows (t : List ℕ) : Type 0 where
  pub size : length t ≡ 2048
  pub leaving : every leaves 0 (take 256 t) ≡ true
  pub moving : each_moved t t (drop 256 t) ≡ true

-- so many zeros are passed at a time
abbrev pub step : ℕ
step = 32

-- what the highest bit of a row leaves: in the first row itself, and in each other what that of the row before leaves, step zeros further
abbrev pub highest : List ℕ → ℕ → ℕ
highest t i = pick (ltb i 32) 0x8000_0000 (divided (8 * step) (get_or t (i - 32) 0))

-- each other bit leaves what the one above it leaves, shifted once more
abbrev pub passes : List ℕ → ℕ → ℕ → Bool
passes t i x = eqb x (pick (eqb (i % 32) 31) (highest t i) (shifted (get_or t (i + 1) 0)))

-- sixteen rows: what each bit of a register leaves behind so many times 32 zeros
pub record Behind (t : List ℕ) : Type 0 where
  pub size : length t ≡ 512
  pub passing : every (passes t) 0 t ≡ true
