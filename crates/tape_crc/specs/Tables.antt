-- The stored tables that the check is computed from, and the rule of each. What the check is (Check) does not rest on them.
-- Assumes nothing.
use Rattle.std.specs.Prelude.{◌≡◌, Bool, true, ◌&&◌, List, [], ◌∷◌, ℕ, suc, ◌/◌, ◌%◌, eqb, length, get_or}
use Rattle.std.specs.Int.Bits.{bit_xor}
use Rattle.tape_crc.specs.Check.{divided}

-- a test that passes at each entry and its place, counted from i
abbrev pub every : (ℕ → ℕ → Bool) → ℕ → List ℕ → Bool
every test i [] = true
every test i (x ∷ xs) = test i x && every test (suc i) xs

-- an entry of the first table: what its place leaves when its eight bits are shifted out
abbrev pub leaves : ℕ → ℕ → Bool
leaves k x = eqb x (divided 8 k)

-- a number shifted down by eight bits, joined with the first table's entry for the byte that fell out
abbrev pub moved : List ℕ → ℕ → ℕ
moved first x = bit_xor (x / 256) (get_or first (x % 256) 0)

-- an entry of the table after t is the entry of t at the same place, so moved
abbrev pub moved_on : List ℕ → List ℕ → ℕ → ℕ → Bool
moved_on first t k x = eqb x (moved first (get_or t k 0))

-- the first table
pub record Remainders (t : List ℕ) : Type 0 where
  pub size : length t ≡ 256
  pub rule : every leaves 0 t ≡ true

-- table k + 1, u, as it follows from table k, t
pub record Follows (first t u : List ℕ) : Type 0 where
  pub size : length u ≡ 256
  pub rule : every (moved_on first t) 0 u ≡ true

-- each table of a list follows from the one before it, the first of them from t
unfoldable pub InTurn : List ℕ → List ℕ → List (List ℕ) → Type 0
InTurn first t [] = Unit {0}
InTurn first t (u ∷ more) = Follows first t u × InTurn first u more

-- the first table and those that follow from it
pub record Tables (first : List ℕ) (more : List (List ℕ)) : Type 0 where
  pub remainders : Remainders first
  pub further : InTurn first first more
