-- Everything that the rules ask of a capture's data. A TCK is due where a TDi names a protocol other than T=0 (000, I-4.3.4); it
-- follows the historical bytes.
-- Assumes nothing.
use Rattle.std.specs.Prelude.{List, ℕ, ◌+◌, ◌%◌, length, get_or, take, drop}
use Rattle.atr_characters.specs.Data.{joined_from, one_if}
use Rattle.atr_characters.specs.Levels.{first_of, after_of, interface_of}
use Rattle.atr_characters.specs.declared.Located.{Located}

-- the historical bytes follow the interface characters; T0's low nibble says how many they are (000, I-4.3.2)
unfoldable pub historical_end : List ℕ → ℕ
historical_end s = (interface_of s).next + get_or s 1 0 % 16

-- T0 to TCK are as many characters behind TS as the place of TCK says
unfoldable pub located_of : List ℕ → Located
located_of s =
    record {
      size = length s;
      first = first_of s;
      second = after_of s (first_of s);
      third = after_of s (after_of s (first_of s));
      start = (interface_of s).next;
      end = historical_end s;
      due = (interface_of s).other;
      after = historical_end s + one_if (interface_of s).other;
      joined = joined_from 0 (take (historical_end s) (drop 1 s));
    }
