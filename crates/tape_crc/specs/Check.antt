-- CRC-32 of IEEE 802.3 in its reflected form: the bits of a byte are taken lowest first, and the register is divided as it
-- moves down. Assumes nothing.
use Rattle.std.specs.Prelude.{List, [], ◌∷◌, ℕ, zero, suc, ◌/◌, ◌%◌, eqb, take}
use Rattle.std.specs.Int.Bits.{bit_xor}
use Rattle.slices.specs.Choice.{pick}

-- the divisor, with its lowest power on top
unfoldable pub divisor : ℕ
divisor = 0xEDB8_8320

-- one bit: the register moves down, and where a one falls out the divisor is taken away
unfoldable pub shifted : ℕ → ℕ
shifted r = pick (eqb (r % 2) 1) (bit_xor (r / 2) divisor) (r / 2)

-- n bits
unfoldable pub divided : ℕ → ℕ → ℕ
divided zero r = r
divided (suc n) r = divided n (shifted r)

-- a byte: it is added at the low end, and eight bits are shifted out
unfoldable pub byte_in : ℕ → ℕ → ℕ
byte_in r b = divided 8 (bit_xor r b)

-- the register after the bytes of a list
unfoldable pub running_of : ℕ → List ℕ → ℕ
running_of r [] = r
running_of r (b ∷ s) = running_of (byte_in r b) s

-- all ones: where the register starts, and by what the last value is complemented
abbrev pub ones : ℕ
ones = 0xFFFF_FFFF

-- the check of a whole list
unfoldable pub check_of : List ℕ → ℕ
check_of s = bit_xor (running_of ones s) ones

-- how many bytes of a block its check covers (01, "The tape": bytes 0 to 507)
abbrev pub covered : ℕ
covered = 508

-- the check of a block; of a shorter one, of the bytes that are there
unfoldable pub block_check_of : List ℕ → ℕ
block_check_of b = check_of (take covered b)
