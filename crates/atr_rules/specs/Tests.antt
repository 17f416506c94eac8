-- When each rule is broken, from the characters that it speaks of, None for one that is not there. Numbers are sections of 000.
-- Assumes nothing.
use Rattle.std.specs.Prelude.{Bool, ◌&&◌, ◌||◌, not, Option, is_some, is_none, ℕ, ◌+◌, ◌/◌, ◌%◌, ◌^◌, leb, ltb, eqb}
use Rattle.atr_characters.specs.Levels.{value, named}

abbrev pub is_absent : Option ℕ → Bool
is_absent x = is_none x

abbrev pub is_there : Option ℕ → Bool
is_there x = is_some x

-- a character that is there, and is not the one that alone is allowed
abbrev pub is_other : Option ℕ → ℕ → Bool
is_other x only = is_there x && not (eqb (value x) only)

abbrev pub bit5 : ℕ → ℕ
bit5 x = x / 16 % 2

-- the extra guard time and one: TC1 gives N, 0 where it is not there, and 'FF' is -1 (I-4.3.3.3, I-4.3.3.10)
abbrev pub guard_and_one : ℕ → ℕ
guard_and_one tc1 = (tc1 % 256 + 1) % 256

-- I-4.3.3.1: '11' only, unless TA2 puts F and D outside the interface characters
abbrev pub ta1_broken : Option ℕ → Option ℕ → Bool
ta1_broken ta1 ta2 = is_other ta1 0x11 && (is_absent ta2 || eqb (bit5 (value ta2)) 0)

-- I-4.3.3.2: after a cold reset. Not there, and the capture goes up to where TC1 stands or would stand
abbrev pub tb1_absent : Bool → Option ℕ → ℕ → ℕ → Bool
tb1_absent warm tb1 c1 size = not warm && is_absent tb1 && leb c1 size

abbrev pub tb1_broken : Bool → Option ℕ → Bool
tb1_broken warm tb1 = not warm && is_other tb1 0

-- I-4.3.3.4
abbrev pub td1_broken : Option ℕ → Bool
td1_broken td1 = ltb 1 (named td1)

-- I-4.3.3.5
abbrev pub ta2_broken : Option ℕ → Bool
ta2_broken ta2 = is_there ta2 && eqb (bit5 (value ta2)) 1

-- I-4.3.3.6
abbrev pub tb2_broken : Option ℕ → Bool
tb2_broken tb2 = is_there tb2

-- I-4.3.3.7
abbrev pub tc2_broken : Option ℕ → Bool
tc2_broken tc2 = is_other tc2 0x0A

-- I-4.3.3.8
abbrev pub td2_broken : Option ℕ → Option ℕ → Bool
td2_broken td1 td2 = is_there td2 && not (eqb (named td2) 1) && not (eqb (named td2) 0xE && eqb (named td1) 0)

-- I-4.3.3.9: the rules on the third level's characters hold where TD2 names T=1
abbrev pub ta3_broken : Option ℕ → Option ℕ → Bool
ta3_broken td2 ta3 = eqb (named td2) 1 && is_there ta3 && (ltb (value ta3) 0x10 || eqb (value ta3) 0xFF)

-- I-4.3.3.10: not there, and the capture goes up to where TC3 stands or would stand
abbrev pub tb3_absent : Option ℕ → Option ℕ → Option ℕ → ℕ → ℕ → Bool
tb3_absent td1 td2 tb3 c3 size = (eqb (named td2) 1 || eqb (named td1) 1) && is_absent tb3 && leb c3 size

abbrev pub bwi_broken : Option ℕ → Option ℕ → Bool
bwi_broken td2 tb3 = eqb (named td2) 1 && is_there tb3 && ltb 4 (value tb3 / 16)

abbrev pub cwi_broken : Option ℕ → Option ℕ → Bool
cwi_broken td2 tb3 = eqb (named td2) 1 && is_there tb3 && ltb 5 (value tb3 % 16)

abbrev pub guard_broken : Option ℕ → Option ℕ → Option ℕ → Bool
guard_broken tc1 td2 tb3 = eqb (named td2) 1 && is_there tb3 && ltb (2 ^ (value tb3 % 16)) (guard_and_one (value tc1))

-- I-4.3.3.11
abbrev pub tc3_broken : Option ℕ → Option ℕ → Bool
tc3_broken td2 tc3 = eqb (named td2) 1 && is_other tc3 0
