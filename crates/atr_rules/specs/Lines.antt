-- The rules as a list, read from the top: number, whether it is broken, and the place of its character. Every rule that is broken
-- is given, in the order of the characters. TS by itself where it is broken (000, I-4.3.1).
-- Assumes nothing.
use Rattle.std.specs.Prelude.{Bool, true, false, ◌&&◌, not, List, [], ◌∷◌, ◌++◌, ℕ, ◌+◌, ◌*◌, ltb, eqb}
use Rattle.slices.specs.Choice.{pick}
use Rattle.atr_characters.specs.Data.{one_if}
use Rattle.atr_characters.specs.declared.Located.{Located}
use Rattle.atr_rules.specs.Names.{TS, TA1, TB1_ABSENT, TB1, TD1, TA2, TB2, TC2, TD2, TA3, TB3_ABSENT}
use Rattle.atr_rules.specs.Names.{TB3_BWI, TB3_CWI, TB3_N, TC3, LONG_BEFORE, CUT, TCK_ABSENT, TCK, LONG_BETWEEN, EXTRA, LONG_BEHIND}
use Rattle.atr_rules.specs.Tests.{ta1_broken, tb1_absent, tb1_broken, td1_broken, ta2_broken, tb2_broken, tc2_broken}
use Rattle.atr_rules.specs.Tests.{td2_broken, ta3_broken, tb3_absent, bwi_broken, cwi_broken, guard_broken, tc3_broken}

pub record Line : Type 0 where
  pub number : ℕ
  pub broken : Bool
  pub place : ℕ

abbrev pub line : ℕ → Bool → ℕ → Line
line number broken place = record { number = number; broken = broken; place = place }

-- TA1 to TD1
unfoldable pub first_lines : Located → Bool → List Line
first_lines l warm =
    line TA1 (ta1_broken l.first.ta l.second.ta) l.first.a
    ∷ line TB1_ABSENT (tb1_absent warm l.first.tb l.first.c l.size) l.first.b
    ∷ line TB1 (tb1_broken warm l.first.tb) l.first.b
    ∷ line TD1 (td1_broken l.first.td) l.first.d
    ∷ []

-- TA2 to TD2
unfoldable pub second_lines : Located → List Line
second_lines l =
    line TA2 (ta2_broken l.second.ta) l.second.a
    ∷ line TB2 (tb2_broken l.second.tb) l.second.b
    ∷ line TC2 (tc2_broken l.second.tc) l.second.c
    ∷ line TD2 (td2_broken l.first.td l.second.td) l.second.d
    ∷ []

-- TA3 to TC3
unfoldable pub third_lines : Located → List Line
third_lines l =
    line TA3 (ta3_broken l.second.td l.third.ta) l.third.a
    ∷ line TB3_ABSENT (tb3_absent l.first.td l.second.td l.third.tb l.third.c l.size) l.third.b
    ∷ line TB3_BWI (bwi_broken l.second.td l.third.tb) l.third.b
    ∷ line TB3_CWI (cwi_broken l.second.td l.third.tb) l.third.b
    ∷ line TB3_N (guard_broken l.first.tc l.second.td l.third.tb) l.third.b
    ∷ line TC3 (tc3_broken l.second.td l.third.tc) l.third.c
    ∷ []

-- at most 32 characters follow TS (I-4.3): the first one too many stands at 33, behind whatever else stands there
abbrev pub long_place : ℕ
long_place = 33

unfoldable pub is_long : Located → Bool
is_long l = ltb long_place l.size

-- a character that is announced, or T0 or TS, is missing where the capture ends; what stands behind it is not judged. TCK is due
-- where a TDi names another protocol than T=0 (I-4.3.4). LONG is given where its place is among the others, and once
unfoldable pub last_lines : Located → List Line
last_lines l =
    line LONG_BEFORE (is_long l && ltb long_place l.end) long_place
    ∷ line CUT (ltb l.size l.end) l.size
    ∷ line TCK_ABSENT (l.due && eqb l.size l.end) l.end
    ∷ line TCK (l.due && ltb l.end l.size && not (eqb l.joined 0)) l.end
    ∷ line LONG_BETWEEN (is_long l && not (ltb long_place l.end) && ltb long_place l.after) long_place
    ∷ line EXTRA (ltb l.after l.size) l.after
    ∷ line LONG_BEHIND (is_long l && not (ltb long_place l.end) && not (ltb long_place l.after)) long_place
    ∷ []

unfoldable pub lines_of : Bool → Located → Bool → List Line
lines_of ts l warm =
    pick ts
    (line TS true 0 ∷ [])
    (line TS false 0 ∷ first_lines l warm ++ second_lines l ++ third_lines l ++ last_lines l)

-- a bit for each number, the lowest for 1
unfoldable pub set_of : List Line → ℕ
set_of [] = 0
set_of (x ∷ xs) = one_if x.broken + 2 * set_of xs

-- the first rule that is broken, and its place; 0 and 0 where none is
unfoldable pub first_broken : List Line → Line
first_broken [] = line 0 false 0
first_broken (x ∷ xs) = pick x.broken x (first_broken xs)
