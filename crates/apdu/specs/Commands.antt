-- A command: header, Lc, data, Le. 000, I-5.4 and I-5.4.1.
-- Assumes nothing.
use Rattle.std.specs.Prelude.{List, ℕ, ◌+◌, eqb, ltb, length, get_or, take, drop, Option, None, Some}
use Rattle.slices.specs.Choice.{pick}
use Rattle.apdu.specs.declared.Case.{Case}
use Rattle.apdu.specs.declared.Case.TheVariants.{One, Two, Three, Four}

-- what stands behind the header's four bytes first: Lc, or Le where nothing follows; 0 where there is neither
abbrev pub length_byte : List ℕ → ℕ
length_byte c = get_or c 4 0

-- 000, Table I-29: cases 1, 2, 3 and 4. An Lc of 0 is none (000, I-5.4.1), and so is any other length
unfoldable pub case_of : List ℕ → Option Case
case_of c =
    pick (ltb (length c) 4) None
    (pick (eqb (length c) 4) (Some One)
    (pick (eqb (length c) 5) (Some Two)
    (pick (eqb (length_byte c) 0) None
    (pick (eqb (length c) (5 + length_byte c)) (Some Three)
    (pick (eqb (length c) (6 + length_byte c)) (Some Four) None)))))

-- the data that goes with a command: as much as Lc says
unfoldable pub data_of : List ℕ → List ℕ
data_of c = take (length_byte c) (drop 5 c)

-- how many bytes a length byte of the answer's asks for: 0 stands for 256 (000, I-5.4.1)
unfoldable pub asked : ℕ → ℕ
asked n = pick (eqb n 0) 256 n
