-- What an accepted answer tells, in plain words: its characters are bytes, and under T=1 there is a TB3. So N is TC1 itself, 0 without
-- it, and BWI and CWI are TB3's nibbles (000, I-4.3.3.3, I-4.3.3.10). The contract of `read_reset` is stated with `told_of`, which is
-- for characters of any size; that `told_of` tells just this of a capture of bytes that is accepted is the law `told_plainly`.
-- Assumes nothing.
use Rattle.std.specs.Prelude.{is_some, ℕ, ◌+◌, ◌/◌, ◌%◌, eqb}
use Rattle.slices.specs.Choice.{pick}
use Rattle.atr_characters.specs.Levels.{value, named}
use Rattle.atr_characters.specs.declared.Located.{Located}
use Rattle.atr.specs.Reading.{or_else}
use Rattle.atr.specs.declared.Protocol.{Protocol}
use Rattle.atr.specs.declared.Protocol.TheVariants.{T0, T1}
use Rattle.atr.specs.declared.Told.{Told}

-- T=1 where TD1 names it, else T=0 (I-4.3.3.4)
unfoldable pub plain_protocol_of : Located → Protocol
plain_protocol_of l =
    pick (eqb (named l.first.td) 1)
    (T1 (or_else 0x20 l.third.ta) (value l.third.tb / 16) (value l.third.tb % 16))
    (T0 (or_else 10 l.second.tc))

-- the least interval between two characters sent to the card, in etu: 12 and N, for a TC1 of 'FF' 11 under T=1 and 12 under T=0 (I-4.3.3.3)
unfoldable pub plain_interval_of : Located → ℕ
plain_interval_of l = pick (eqb (value l.first.tc) 0xFF) (pick (eqb (named l.first.td) 1) 11 12) (12 + value l.first.tc)

-- all that is told
unfoldable pub plain_told_of : Located → Told
plain_told_of l =
    record {
      f = 372;
      d = 1;
      n = value l.first.tc;
      interval = plain_interval_of l;
      specific = is_some l.second.ta;
      protocol = plain_protocol_of l;
      start = l.start;
      end = l.end;
    }
