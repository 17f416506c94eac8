-- What a tape holds: entries, each of a kind and with a payload, and the limits that a tape keeps (01, "The tape"; 02, R-7 and R-8).
-- Assumes nothing.
use Rattle.std.specs.Prelude.{Bool, true, ◌&&◌, List, [], ◌∷◌, ℕ, ◌*◌, leb, length}
use Rattle.std.proofs.Math.Pow.{are_bytes}
use Rattle.numbers.specs.Tables.{is_kind}

-- the bytes of a block
abbrev pub block_size : ℕ
block_size = 512

-- at most so many blocks to a tape (02, R-8), and so many bytes
abbrev pub blocks_most : ℕ
blocks_most = 1024

abbrev pub tape_most : ℕ
tape_most = blocks_most * block_size

-- at most so many bytes to a payload
abbrev pub payload_most : ℕ
payload_most = 496

-- what one block holds
pub record Entry : Type 0 where
  pub kind : ℕ
  pub payload : List ℕ

abbrev pub entry : ℕ → List ℕ → Entry
entry k p = record { kind = k; payload = p }

-- an entry that a block can hold: one of the kinds, and a payload of bytes that is not too long
unfoldable pub storable : Entry → Bool
storable e = is_kind e.kind && (leb (length e.payload) payload_most && are_bytes e.payload)

unfoldable pub all_storable : List Entry → Bool
all_storable [] = true
all_storable (e ∷ es) = storable e && all_storable es
