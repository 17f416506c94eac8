-- One entry as a block of 512 bytes, what any bytes hold, and the tests that a block must pass (02, R-11; the layout is the house's).
-- Numbers, and the check, are as on a tape (01, "The tape"). Assumes nothing.
use Rattle.std.specs.Prelude.{Bool, Option, Some, None, not, ◌&&◌, List, ◌∷◌, ◌++◌, ℕ, ◌-◌, take, drop}
use Rattle.slices.specs.Choice.{pick}
use Rattle.slices.specs.Tests.{alike}
use Rattle.slices.specs.Writing.{zeros}
use Rattle.tape_crc.specs.Check.{covered, block_check_of}
use Rattle.tape_read.specs.Numbers.{bytes_of}
use Rattle.tape_read.specs.Blocks.{field, check_bad, number_bad}
use Rattle.book_block.specs.Entries.{is_verdict, made}
use Rattle.book_block.specs.declared.Entry.{Entry}
use Rattle.book_block.specs.declared.Fault.{Fault}
use Rattle.book_block.specs.declared.Fault.TheVariants.{TooLong, Torn, BadCheck, BadNumber, BadVerdict, BadZeros, Twice}

-- block number (0), tape number (4), verdict (8), three zeros (9), place (12), code (16)
unfoldable pub head : ℕ → Entry → List ℕ
head n e = bytes_of 4 n ++ (bytes_of 4 e.tape ++ (e.verdict ∷ 0 ∷ 0 ∷ 0 ∷ (bytes_of 4 e.place ++ bytes_of 4 e.code)))

-- where the zeros after the code start, and how many there are up to the check
abbrev pub padding_at : ℕ
padding_at = 20

abbrev pub padding : ℕ
padding = covered - padding_at

-- all that the check covers
unfoldable pub body : ℕ → Entry → List ℕ
body n e = head n e ++ zeros padding

-- a block: the check comes last (508)
unfoldable pub block : ℕ → Entry → List ℕ
block n e = body n e ++ bytes_of 4 (block_check_of (body n e))

-- the fields of a block, at the places where `block` puts them
abbrev pub tape_in : List ℕ → ℕ
tape_in b = field 4 4 b

abbrev pub verdict_in : List ℕ → ℕ
verdict_in b = field 8 1 b

abbrev pub place_in : List ℕ → ℕ
place_in b = field 12 4 b

abbrev pub code_in : List ℕ → ℕ
code_in b = field 16 4 b

-- the entry that a block holds
unfoldable pub entry_in : List ℕ → Entry
entry_in b = made (tape_in b) (verdict_in b) (place_in b) (code_in b)

-- none of the four verdicts
unfoldable pub verdict_bad : List ℕ → Bool
verdict_bad b = not (is_verdict (verdict_in b))

-- a byte where zeros belong is another, or is not there
unfoldable pub zeros_bad : List ℕ → Bool
zeros_bad b = not (alike (take 3 (drop 9 b)) (zeros 3) && alike (take padding (drop padding_at b)) (zeros padding))

-- the first fault of a block where this block number is due, the tests in this order; none where it passes them all
unfoldable pub fault_of : ℕ → List ℕ → Option Fault
fault_of n b =
    pick (check_bad b) (Some BadCheck)
    (pick (number_bad n b) (Some BadNumber)
    (pick (verdict_bad b) (Some BadVerdict)
    (pick (zeros_bad b) (Some BadZeros)
    None)))

-- the number of each fault (house); 1 and 2 are faults of the whole book, 7 of a block beside those before it
unfoldable pub fault_number : Fault → ℕ
fault_number TooLong = 1
fault_number Torn = 2
fault_number BadCheck = 3
fault_number BadNumber = 4
fault_number BadVerdict = 5
fault_number BadZeros = 6
fault_number Twice = 7
