-- Worked commands that hold the definitions to document 01, each by computation.
-- Assumes nothing.
use mathlib.Core.Path.{◌≡◌, refl}
use mathlib.Core.List.{[], ◌∷◌}
use Rattle.slices.specs.Choice.{pick}
use Rattle.tlv_write.specs.Written.{written, tag_bytes, length_bytes}
use Rattle.commands.specs.Commands.{select_command, options_command, record_command, cryptogram_command, with_length, size_in}

select_worked : select_command (0xA0 ∷ 0x00 ∷ 0x00 ∷ 0x00 ∷ 0x03 ∷ [])
    ≡ 0x00 ∷ 0xA4 ∷ 0x04 ∷ 0x00 ∷ 0x05 ∷ 0xA0 ∷ 0x00 ∷ 0x00 ∷ 0x00 ∷ 0x03 ∷ 0x00 ∷ []
unfolding select_command
select_worked = refl

-- no PDOL: 01, "Sessions on the bench"
options_worked : options_command [] ≡ 0x80 ∷ 0xA8 ∷ 0x00 ∷ 0x00 ∷ 0x02 ∷ 0x83 ∷ 0x00 ∷ 0x00 ∷ []
unfolding options_command written tag_bytes length_bytes pick
options_worked = refl

-- case G's first record, and the highest file and record
record_worked : (record_command 1 1 ≡ 0x00 ∷ 0xB2 ∷ 0x01 ∷ 0x0C ∷ 0x00 ∷ [])
    × (record_command 255 10 ≡ 0x00 ∷ 0xB2 ∷ 0xFF ∷ 0x54 ∷ 0x00 ∷ [])
unfolding record_command
record_worked = (refl, refl)

cryptogram_worked : (cryptogram_command 0x80 (0x11 ∷ 0x22 ∷ []) ≡ 0x80 ∷ 0xAE ∷ 0x80 ∷ 0x00 ∷ 0x02 ∷ 0x11 ∷ 0x22 ∷ 0x00 ∷ [])
    × (cryptogram_command 0x00 [] ≡ 0x80 ∷ 0xAE ∷ 0x00 ∷ 0x00 ∷ 0x00 ∷ [])
unfolding cryptogram_command with_length pick
cryptogram_worked = (refl, refl)

-- a command that has no room takes none of it
size_worked : (size_in 5 (record_command 1 1) ≡ 5) × (size_in 4 (record_command 1 1) ≡ 0)
unfolding size_in record_command pick
size_worked = (refl, refl)
