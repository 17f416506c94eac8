-- One entry as a block of bytes, the fields of a block, and the tests that a block must pass (01, "The tape").
-- Assumes nothing.
use Rattle.std.specs.Prelude.{Bool, true, not, ◌&&◌, List, [], ◌∷◌, ◌++◌, ℕ, zero, suc, ◌+◌, ◌-◌, eqb, ltb, length, get_or, take, drop}
use Rattle.slices.specs.Choice.{pick, first_of}
use Rattle.slices.specs.Writing.{zeros}
use Rattle.numbers.specs.Tables.{code_check, code_number, code_session, code_kind, code_spare, code_length, code_padding, is_kind}
use Rattle.tape_crc.specs.Check.{covered, block_check_of}
use Rattle.tape_read.specs.Numbers.{number_of, bytes_of}
use Rattle.tape_read.specs.Entries.{payload_most, Entry, entry}

-- the bytes before the payload: block number (0), session number (4), kind (8), a zero (9), length (10)
unfoldable pub head : ℕ → ℕ → Entry → List ℕ
head number session e = bytes_of 4 number ++ (bytes_of 4 session ++ (e.kind ∷ 0 ∷ bytes_of 2 (length e.payload)))

-- all that the check covers: the payload follows (12), and zeros after it
unfoldable pub body : ℕ → ℕ → Entry → List ℕ
body number session e = head number session e ++ (e.payload ++ zeros (payload_most - length e.payload))

-- a block: the check comes last (508)
unfoldable pub block : ℕ → ℕ → Entry → List ℕ
block number session e = body number session e ++ bytes_of 4 (block_check_of (body number session e))

-- so many bytes from a place on; one past the end counts as 0
unfoldable pub window : ℕ → ℕ → List ℕ → List ℕ
window zero at b = []
window (suc width) at b = get_or b at 0 ∷ window width (at + 1) b

-- the number at a place, so many bytes wide
unfoldable pub field : ℕ → ℕ → List ℕ → ℕ
field at width b = number_of (window width at b)

-- the fields of a block, at the places where `block` puts them
abbrev pub number_in : List ℕ → ℕ
number_in b = field 0 4 b

abbrev pub session_in : List ℕ → ℕ
session_in b = field 4 4 b

abbrev pub kind_in : List ℕ → ℕ
kind_in b = field 8 1 b

abbrev pub spare_in : List ℕ → ℕ
spare_in b = field 9 1 b

abbrev pub length_in : List ℕ → ℕ
length_in b = field 10 2 b

abbrev pub check_in : List ℕ → ℕ
check_in b = field covered 4 b

-- where the payload starts
abbrev pub payload_at : ℕ
payload_at = 12

-- the bytes after the payload, up to the check
unfoldable pub padding_in : List ℕ → List ℕ
padding_in b = window (payload_most - length_in b) (payload_at + length_in b) b

-- nothing but zeros
unfoldable pub all_zero : List ℕ → Bool
all_zero [] = true
all_zero (x ∷ s) = eqb x 0 && all_zero s

-- code 3: the check is not that of the block
unfoldable pub check_bad : List ℕ → Bool
check_bad b = not (eqb (check_in b) (block_check_of b))

-- code 4: another block number than the one due
unfoldable pub number_bad : ℕ → List ℕ → Bool
number_bad number b = not (eqb (number_in b) number)

-- code 5: another session number than the one due
unfoldable pub session_bad : ℕ → List ℕ → Bool
session_bad session b = not (eqb (session_in b) session)

-- code 6: none of the kinds
unfoldable pub kind_bad : List ℕ → Bool
kind_bad b = not (is_kind (kind_in b))

-- code 7: byte 9 is not zero
unfoldable pub spare_bad : List ℕ → Bool
spare_bad b = not (eqb (spare_in b) 0)

-- code 8: a length that no payload has
unfoldable pub length_bad : List ℕ → Bool
length_bad b = ltb payload_most (length_in b)

-- code 9: a byte after the payload is not zero
unfoldable pub padding_bad : List ℕ → Bool
padding_bad b = not (all_zero (padding_in b))

-- the tests that ask nothing but the block's own content, with their codes
unfoldable pub content_tests : List ℕ → List (Bool × ℕ)
content_tests b = (kind_bad b, code_kind) ∷ (spare_bad b, code_spare) ∷ (length_bad b, code_length) ∷ (padding_bad b, code_padding) ∷ []

-- the code of a block where this block number and this session number are due; 0: a good block
unfoldable pub code_of : ℕ → ℕ → List ℕ → ℕ
code_of number session b = first_of ((check_bad b, code_check) ∷ (number_bad number b, code_number) ∷ (session_bad session b, code_session)
    ∷ content_tests b)

-- the payload of a block; none where its length is not allowed
unfoldable pub payload_in : List ℕ → List ℕ
payload_in b = pick (length_bad b) [] (take (length_in b) (drop payload_at b))

-- the entry that a block holds
unfoldable pub entry_in : List ℕ → Entry
entry_in b = entry (kind_in b) (payload_in b)
