-- A capture for each rule that breaks that rule and no other, after a cold reset: its number, the capture and the place. LONG stands
-- here with two of its three numbers; the third is behind EXTRA, and never alone.
-- Assumes nothing.
use Rattle.std.specs.Prelude.{List, [], ◌∷◌, ◌++◌, ℕ, replicate}
use Rattle.atr_rules.specs.Names.{TS, TA1, TB1_ABSENT, TB1, TD1, TA2, TB2, TC2, TD2, TA3, TB3_ABSENT}
use Rattle.atr_rules.specs.Names.{TB3_BWI, TB3_CWI, TB3_N, TC3, LONG_BEFORE, CUT, TCK_ABSENT, TCK, LONG_BETWEEN, EXTRA}

pub record Breaking : Type 0 where
  pub rule : ℕ
  pub capture : List ℕ
  pub place : ℕ

abbrev breaking : ℕ → ℕ → List ℕ → Breaking
breaking rule place capture = record { rule = rule; capture = capture; place = place }

-- T0 to the fourth level's TD, and as many characters of a fifth level as it announces; then fifteen historical bytes and TCK
abbrev with_level : ℕ → List ℕ → ℕ → List ℕ
with_level map level tck =
    (0x3B ∷ 0xAF ∷ 0x00 ∷ 0x80 ∷ 0xFE ∷ 0x00 ∷ 0x00 ∷ 0x00 ∷ 0xF0 ∷ 0x00 ∷ 0x00 ∷ 0x00 ∷ 0xF0 ∷ 0x00 ∷ 0x00 ∷ 0x00 ∷ map ∷ level)
    ++ (replicate 15 0x41 ++ (tck ∷ []))

-- 35 characters: TCK stands at 34, and LONG before it
abbrev long_before : List ℕ
long_before = with_level 0x30 (0x00 ∷ 0x00 ∷ []) 0xA0

-- 34 characters: TCK stands at 33, and LONG is given behind it
abbrev long_between : List ℕ
long_between = with_level 0x20 (0x00 ∷ []) 0xB0

-- a whole answer of three characters, and 31 more: EXTRA at 3, and LONG at 33
abbrev pub long_behind : List ℕ
long_behind = 0x3B ∷ 0x20 ∷ replicate 32 0x00

-- 40 characters, the last of which are levels of four that go on: LONG at 33, CUT at 40
abbrev pub long_and_cut : List ℕ
long_and_cut =
    (0x3B ∷ 0xA0 ∷ 0x00 ∷ 0x80 ∷ 0xFE ∷ [])
    ++ (level ++ level ++ level ++ level ++ level ++ level ++ level ++ level ++ (0x00 ∷ 0x00 ∷ 0x00 ∷ []))
  where
    level : List ℕ
    level = 0x00 ∷ 0x00 ∷ 0x00 ∷ 0xF0 ∷ []

abbrev pub each_rule : List Breaking
each_rule =
    breaking TS 0 (0x3F ∷ 0x60 ∷ 0x00 ∷ 0x00 ∷ [])
    ∷ breaking TA1 2 (0x3B ∷ 0x70 ∷ 0x12 ∷ 0x00 ∷ 0x00 ∷ [])
    ∷ breaking TB1_ABSENT 2 (0x3B ∷ 0x00 ∷ [])
    ∷ breaking TB1 2 (0x3B ∷ 0x20 ∷ 0x01 ∷ [])
    ∷ breaking TD1 3 (0x3B ∷ 0xA0 ∷ 0x00 ∷ 0x02 ∷ 0xA2 ∷ [])
    ∷ breaking TA2 4 (0x3B ∷ 0xA0 ∷ 0x00 ∷ 0x10 ∷ 0x10 ∷ [])
    ∷ breaking TB2 4 (0x3B ∷ 0xA0 ∷ 0x00 ∷ 0x20 ∷ 0x00 ∷ [])
    ∷ breaking TC2 4 (0x3B ∷ 0xA0 ∷ 0x00 ∷ 0x40 ∷ 0x09 ∷ [])
    ∷ breaking TD2 4 (0x3B ∷ 0xA0 ∷ 0x00 ∷ 0x80 ∷ 0x00 ∷ [])
    ∷ breaking TA3 5 (0x3B ∷ 0xA0 ∷ 0x00 ∷ 0x81 ∷ 0x31 ∷ 0x0F ∷ 0x45 ∷ 0x5A ∷ [])
    ∷ breaking TB3_ABSENT 6 (0x3B ∷ 0xA0 ∷ 0x00 ∷ 0x81 ∷ 0x11 ∷ 0x20 ∷ 0x10 ∷ [])
    ∷ breaking TB3_BWI 5 (0x3B ∷ 0xA0 ∷ 0x00 ∷ 0x81 ∷ 0x21 ∷ 0x55 ∷ 0x55 ∷ [])
    ∷ breaking TB3_CWI 5 (0x3B ∷ 0xA0 ∷ 0x00 ∷ 0x81 ∷ 0x21 ∷ 0x46 ∷ 0x46 ∷ [])
    ∷ breaking TB3_N 6 (0x3B ∷ 0xE0 ∷ 0x00 ∷ 0x01 ∷ 0x81 ∷ 0x21 ∷ 0x40 ∷ 0x01 ∷ [])
    ∷ breaking TC3 6 (0x3B ∷ 0xA0 ∷ 0x00 ∷ 0x81 ∷ 0x61 ∷ 0x45 ∷ 0x01 ∷ 0x04 ∷ [])
    ∷ breaking LONG_BEFORE 33 long_before
    ∷ breaking CUT 2 (0x3B ∷ 0x20 ∷ [])
    ∷ breaking TCK_ABSENT 6 (0x3B ∷ 0xA0 ∷ 0x00 ∷ 0x81 ∷ 0x21 ∷ 0x45 ∷ [])
    ∷ breaking TCK 6 (0x3B ∷ 0xA0 ∷ 0x00 ∷ 0x81 ∷ 0x21 ∷ 0x45 ∷ 0x44 ∷ [])
    ∷ breaking LONG_BETWEEN 33 long_between
    ∷ breaking EXTRA 3 (0x3B ∷ 0x20 ∷ 0x00 ∷ 0x00 ∷ [])
    ∷ []
