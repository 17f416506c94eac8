-- The objects that a selection looks at. 001 says where each stands and how long it is, 01's faults decide the rest: one that stands twice,
-- or has another length, is a fault, and so is a mandatory one that is missing.
-- Assumes nothing.
use Rattle.std.specs.Prelude.{Bool, true, false, [], ◌∷◌, ℕ, eqb, length, get_or}
use Rattle.slices.specs.Tests.{every, between}
use Rattle.tlv_list.specs.Lookup.{Lookup, absent, once, twice}
use Rattle.answer_common.specs.Named.{value_of}

-- an application's name, 4F or 84: mandatory, 5 to 16 bytes. 001, Tables 10 and 12
unfoldable pub name_right : Lookup → Bool
name_right absent = false
name_right (once v) = between 5 16 (length v)
name_right twice = false

-- its priority indicator, 87: optional, one byte. 001, Tables 10 and 12
unfoldable pub indicator_right : Lookup → Bool
indicator_right absent = true
indicator_right (once v) = eqb (length v) 1
indicator_right twice = false

-- what the indicator says: without one there is neither a priority nor a confirmation, as a byte '00' has it (001, Table 13)
unfoldable pub indicator_of : Lookup → ℕ
indicator_of l = get_or (value_of l) 0 0

-- the directory's file, 88: mandatory, one byte, 1 to 10. 001, Table 8 and 12.2.3
unfoldable pub file_right : Lookup → Bool
file_right absent = false
file_right (once v) = every (eqb (length v) 1 ∷ between 1 10 (get_or v 0 0) ∷ [])
file_right twice = false
