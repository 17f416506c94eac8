-- The rules by name, numbered in the order of the characters: twenty rules, and two numbers more for LONG.
-- Assumes nothing.
use Rattle.std.specs.Prelude.{ℕ}

abbrev pub TS : ℕ
TS = 1

abbrev pub TA1 : ℕ
TA1 = 2

abbrev pub TB1_ABSENT : ℕ
TB1_ABSENT = 3

abbrev pub TB1 : ℕ
TB1 = 4

abbrev pub TD1 : ℕ
TD1 = 5

abbrev pub TA2 : ℕ
TA2 = 6

abbrev pub TB2 : ℕ
TB2 = 7

abbrev pub TC2 : ℕ
TC2 = 8

abbrev pub TD2 : ℕ
TD2 = 9

abbrev pub TA3 : ℕ
TA3 = 10

abbrev pub TB3_ABSENT : ℕ
TB3_ABSENT = 11

abbrev pub TB3_BWI : ℕ
TB3_BWI = 12

abbrev pub TB3_CWI : ℕ
TB3_CWI = 13

abbrev pub TB3_N : ℕ
TB3_N = 14

abbrev pub TC3 : ℕ
TC3 = 15

-- LONG has a place of its own, 33, wherever the answer ends: it is one rule and stands in the order at one of three numbers, before the
-- end's characters, between TCK and what follows it, or behind them
abbrev pub LONG_BEFORE : ℕ
LONG_BEFORE = 16

abbrev pub CUT : ℕ
CUT = 17

abbrev pub TCK_ABSENT : ℕ
TCK_ABSENT = 18

abbrev pub TCK : ℕ
TCK = 19

abbrev pub LONG_BETWEEN : ℕ
LONG_BETWEEN = 20

abbrev pub EXTRA : ℕ
EXTRA = 21

abbrev pub LONG_BEHIND : ℕ
LONG_BEHIND = 22

-- how many numbers there are
abbrev pub numbers : ℕ
numbers = 22
