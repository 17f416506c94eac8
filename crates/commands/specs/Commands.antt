-- The four commands as bytes: 01, "The commands"; 000, II-2. Each begins with class, instruction and two parameters, and ends with
-- the byte that asks for any answer. Between them stand Lc, the number of data bytes, and the data, where there are any.
-- Assumes nothing.
use Rattle.std.specs.Prelude.{List, [], ◌∷◌, ◌++◌, ℕ, ◌+◌, ◌*◌, ◌%◌, eqb, leb, length}
use Rattle.slices.specs.Choice.{pick}
use Rattle.tlv_write.specs.Written.{written}
use Rattle.dol_wanted.specs.Wanted.{fillable, total_of}

-- SELECT by the AID
unfoldable pub select_command : List ℕ → List ℕ
select_command aid = 0x00 ∷ 0xA4 ∷ 0x04 ∷ 0x00 ∷ length aid ∷ (aid ++ (0x00 ∷ []))

-- GET PROCESSING OPTIONS: the data of 9F38 in an object 83
unfoldable pub options_command : List ℕ → List ℕ
options_command data' = 0x80 ∷ 0xA8 ∷ 0x00 ∷ 0x00 ∷ length (written 0x83 data') ∷ (written 0x83 data' ++ (0x00 ∷ []))

-- READ RECORD of a file
unfoldable pub record_command : ℕ → ℕ → List ℕ
record_command number file = 0x00 ∷ 0xB2 ∷ number ∷ (8 * file + 4) % 256 ∷ 0x00 ∷ []

-- Lc and the data; with no data Lc is absent
unfoldable pub with_length : List ℕ → List ℕ
with_length data' = pick (eqb (length data') 0) [] (length data' ∷ data')

-- GENERATE AC, its first parameter the cryptogram asked for
unfoldable pub cryptogram_command : ℕ → List ℕ → List ℕ
cryptogram_command request data' = 0x80 ∷ 0xAE ∷ request ∷ 0x00 ∷ (with_length data' ++ (0x00 ∷ []))

-- the longest command
abbrev pub longest : ℕ
longest = 261

-- how many bytes of a buffer a command takes: none where it has no room, and then it is not written
unfoldable pub size_in : ℕ → List ℕ → ℕ
size_in room command = pick (leb (length command) room) (length command) 0

-- how many bytes of data an object list asks for; none where it cannot be filled
unfoldable pub data_size : List ℕ → ℕ
data_size list = pick (fillable list) (total_of list) 0
