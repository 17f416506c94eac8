-- The interface characters, level by level. T0 and each TDi announce up to four characters by a bit each, b5 to b8: TA, TB, TC
-- and TD of the next level, in this order and without gaps (000, I-4.3.2, I-4.3.3.4, I-4.3.3.8). A character past the end of the
-- capture reads as 0, and so announces nothing.
-- Assumes nothing.
use Rattle.std.specs.Prelude.{Bool, ◌||◌, not, List, Option, None, Some, unwrap_or, ℕ, zero, suc, ◌+◌, ◌/◌, ◌%◌, ◌<◌, ltb, eqb, length, get_or}
use Rattle.slices.specs.Choice.{pick}
use Rattle.atr_characters.specs.declared.Level.{Level}
use Rattle.atr_characters.specs.declared.Interface.{Interface}

-- what a character says; one that is not announced, or not in the capture, says 0
abbrev pub value : Option ℕ → ℕ
value c = unwrap_or c 0

-- the protocol that a TDi names; one that is not there names T=0
abbrev pub named : Option ℕ → ℕ
named td = value td % 16

-- the character at a place, where it is announced (1) and in the capture
unfoldable pub found_at : List ℕ → ℕ → ℕ → Option ℕ
found_at s announced p = pick (eqb announced 1) (pick (ltb p (length s)) (Some (get_or s p 0)) None) None

-- the level that a bit map announces from a place on
unfoldable pub level_of : List ℕ → ℕ → ℕ → Level
level_of s y p =
    let b = p + y / 16 % 2 in
    let c = b + y / 32 % 2 in
    let d = c + y / 64 % 2 in
    record {
      ta = found_at s (y / 16 % 2) p;
      tb = found_at s (y / 32 % 2) b;
      tc = found_at s (y / 64 % 2) c;
      td = found_at s (y / 128 % 2) d;
      a = p;
      b = b;
      c = c;
      d = d;
      next = d + y / 128 % 2;
    }

-- a level's characters are bytes; one that is not there says 0
abbrev pub Bytes : Level → Type 0
Bytes l = (value l.ta < 256) × (value l.tb < 256) × (value l.tc < 256) × (value l.td < 256)

-- T0 announces the first level, which starts behind it
unfoldable pub first_of : List ℕ → Level
first_of s = level_of s (get_or s 1 0) 2

-- TD announces the level after its own; where there is no TD, nothing is announced
unfoldable pub after_of : List ℕ → Level → Level
after_of s l = level_of s (value l.td) l.next

-- whether a TD names a protocol other than T=0
abbrev pub names_other : Option ℕ → Bool
names_other td = not (eqb (named td) 0)

-- n levels on: where they end, and whether one of their TD names a protocol other than T=0
unfoldable pub walked : ℕ → List ℕ → Level → Bool → Interface
walked zero s l other = record { next = l.next; other = other }
walked (suc n) s l other = walked n s (after_of s l) (other || names_other (after_of s l).td)

-- all levels: each that is announced has a character at least, so that there are no more of them than characters
unfoldable pub interface_of : List ℕ → Interface
interface_of s = walked (length s) s (first_of s) (names_other (first_of s).td)
