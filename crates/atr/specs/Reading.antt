-- What an answer to reset tells. 000, I-4.
-- Assumes nothing.
use Rattle.std.specs.Prelude.{Option, is_some, unwrap_or, Result, Ok, Err}
use Rattle.std.specs.Prelude.{Bool, ◌&&◌, not, List, map, ℕ, ◌+◌, ◌-◌, ◌/◌, ◌%◌, ltb, eqb, length, get_or, take, drop}
use Rattle.slices.specs.Choice.{pick}
use Rattle.slices.specs.Tables.{any_of}
use Rattle.atr_characters.specs.Data.{data_of}
use Rattle.atr_characters.specs.Levels.{value, named}
use Rattle.atr_characters.specs.Located.{located_of}
use Rattle.atr_characters.specs.declared.Located.{Located}
use Rattle.atr_rules.specs.Lines.{Line, lines_of, set_of, first_broken}
use Rattle.atr.specs.declared.Reset.{Reset}
use Rattle.atr.specs.declared.Told.{Told}
use Rattle.atr.specs.declared.Protocol.{Protocol}
use Rattle.atr.specs.declared.Protocol.TheVariants.{T0, T1}
use Rattle.atr.specs.declared.Broken.{Broken}

-- TS as it is captured: '3B', or '03' where the captured bytes are line bytes (I-4.3.1)
unfoldable pub is_inverse : List ℕ → Bool
is_inverse capture = eqb (get_or capture 0 0) 0x03

unfoldable pub ts_broken : List ℕ → Bool
ts_broken capture = ltb 0 (length capture) && not (eqb (get_or capture 0 0) 0x3B) && not (eqb (get_or capture 0 0) 0x03)

-- a character, or what counts where it is not there
unfoldable pub or_else : ℕ → Option ℕ → ℕ
or_else other x = unwrap_or x other

-- what counts for a TB3 that is not there: no BWI that there is. An answer of T=1 without TB3 breaks a rule (I-4.3.3.10)
abbrev pub no_tb3 : ℕ
no_tb3 = 256

-- T=1 where TD1 names it, else T=0 (I-4.3.3.4). WI is 10 without TC2 (I-4.3.3.7), IFSC '20' without TA3 (I-4.3.3.9), BWI and CWI
-- are TB3's nibbles (I-4.3.3.10)
unfoldable pub protocol_of : Located → Protocol
protocol_of l =
    pick (eqb (named l.first.td) 1)
    (T1 (or_else 0x20 l.third.ta) (or_else no_tb3 l.third.tb / 16) (or_else no_tb3 l.third.tb % 16))
    (T0 (or_else 10 l.second.tc))

-- the least interval between two characters sent to the card, in etu (I-4.3.3.3)
unfoldable pub interval_of : Located → ℕ
interval_of l = pick (eqb (value l.first.tc) 0xFF) (pick (eqb (named l.first.td) 1) 11 12) (12 + value l.first.tc % 256)

-- F and D stay at their defaults (I-4.3.3.1); N is TC1, 0 without it (I-4.3.3.3); TA2 there is the specific mode (I-4.3.3.5)
unfoldable pub told_of : Located → Told
told_of l =
    record {
      f = 372;
      d = 1;
      n = value l.first.tc % 256;
      interval = interval_of l;
      specific = is_some l.second.ta;
      protocol = protocol_of l;
      start = l.start;
      end = l.end;
    }

-- refused where a rule is broken, with all that are, the first and its place
unfoldable pub reading_of : List Line → Located → Result Told Broken
reading_of lines l =
    pick (any_of (map (λ (x : Line). x.broken) lines))
    (Err (record { rules = set_of lines; first = (first_broken lines).number; place = (first_broken lines).place }))
    (Ok (told_of l))

-- the rules of a capture, after a cold or a warm reset
unfoldable pub rules_of : List ℕ → Bool → List Line
rules_of capture warm = lines_of (ts_broken capture) (located_of (data_of (is_inverse capture) capture)) warm

-- the reading of a capture; the convention stands beside it
unfoldable pub read_reset : List ℕ → Bool → Reset
read_reset capture warm =
    record {
      inverse = is_inverse capture;
      reading = reading_of (rules_of capture warm) (located_of (data_of (is_inverse capture) capture));
    }

-- the historical bytes, as captured: from `start` to just before `end` (I-4.3.2)
unfoldable pub historical_of : List ℕ → Told → List ℕ
historical_of capture t = take (t.end - t.start) (drop t.start capture)
