-- The two basic answers to reset (000, Tables I-11 and I-12, with T0 and TB1 as in Tables I-13 and I-14).
-- Assumes nothing.
use Rattle.std.specs.Prelude.{List, [], ◌∷◌, ◌++◌, ℕ, ◌+◌, ◌/◌, ◌%◌, ◌^◌, ◌≤◌, length}
use Rattle.atr_characters.specs.Data.{joined_from}
use Rattle.atr_rules.specs.Tests.{guard_and_one}

-- T=0 only: TC1 and the historical bytes are free
unfoldable pub basic_t0 : ℕ → List ℕ → List ℕ
basic_t0 tc1 historical = 0x3B ∷ (0x60 + length historical) ∷ 0x00 ∷ tc1 ∷ historical

-- T=1 only, from T0 to the last historical byte
unfoldable pub basic_body : ℕ → ℕ → ℕ → List ℕ → List ℕ
basic_body tc1 ta3 tb3 historical = (0xE0 + length historical) ∷ 0x00 ∷ tc1 ∷ 0x81 ∷ 0x31 ∷ ta3 ∷ tb3 ∷ historical

-- TCK makes the exclusive or of all of them zero
unfoldable pub basic_t1 : ℕ → ℕ → ℕ → List ℕ → List ℕ
basic_t1 tc1 ta3 tb3 historical =
    0x3B ∷ basic_body tc1 ta3 tb3 historical ++ (joined_from 0 (basic_body tc1 ta3 tb3 historical) ∷ [])

-- what Table I-12 lets TA3 and TB3 be. TC1 is free there; the rule on TB3 then asks that 2^CWI is not below N + 1 (I-4.3.3.10)
pub record InTable (tc1 ta3 tb3 : ℕ) (historical : List ℕ) : Type 0 where
  pub few : length historical ≤ 15
  pub low : 0x10 ≤ ta3
  pub high : ta3 ≤ 0xFE
  pub bwi : tb3 / 16 ≤ 4
  pub cwi : tb3 % 16 ≤ 5
  pub room : guard_and_one tc1 ≤ 2 ^ (tb3 % 16)
