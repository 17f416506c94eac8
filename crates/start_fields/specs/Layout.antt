-- Where START's fields stand: 01, "Terminal data (START, 74 bytes)"; 02, R-7.
-- Assumes nothing.
use Rattle.std.specs.Prelude.{Bool, ◌||◌, ℕ, eqb}
use Rattle.start_fields.specs.declared.fields.Field.{Field}
use Rattle.start_fields.specs.declared.fields.Field.TheVariants.{Amount, OtherAmount, Country, Currency, Date}
use Rattle.start_fields.specs.declared.fields.Field.TheVariants.{TransactionType, Unpredictable, FloorLimit, Threshold}
use Rattle.start_fields.specs.declared.fields.Field.TheVariants.{Version, Denial, Online, Default, Capabilities}
use Rattle.start_fields.specs.declared.fields.Octet.{Octet}
use Rattle.start_fields.specs.declared.fields.Octet.TheVariants.{Kind, Random, Target, Maximum}

-- the offset at which a run of bytes begins
abbrev pub begin_of : Field → ℕ
begin_of Amount = 1
begin_of OtherAmount = 7
begin_of Country = 13
begin_of Currency = 15
begin_of Date = 17
begin_of TransactionType = 20
begin_of Unpredictable = 21
begin_of FloorLimit = 25
begin_of Threshold = 33
begin_of Version = 40
begin_of Denial = 42
begin_of Online = 47
begin_of Default = 52
begin_of Capabilities = 74

-- how many bytes it has
abbrev pub size_of : Field → ℕ
size_of Amount = 6
size_of OtherAmount = 6
size_of Country = 2
size_of Currency = 2
size_of Date = 3
size_of TransactionType = 1
size_of Unpredictable = 4
size_of FloorLimit = 6
size_of Threshold = 6
size_of Version = 2
size_of Denial = 5
size_of Online = 5
size_of Default = 5
size_of Capabilities = 3

-- the offset of a field that is one byte
abbrev pub octet_at : Octet → ℕ
octet_at Kind = 0
octet_at Random = 31
octet_at Target = 32
octet_at Maximum = 39

-- the AID's length, and the room that the AID stands in
abbrev pub aid_length_at : ℕ
aid_length_at = 57

abbrev pub aid_at : ℕ
aid_at = 58

abbrev pub aid_room : ℕ
aid_room = 16

-- the bytes of the shortest START, which is 01's, and of the longest: with Terminal Capabilities behind it (02, R-7)
abbrev pub start_length : ℕ
start_length = 74

abbrev pub full_length : ℕ
full_length = 77

-- how many bytes a START can have
unfoldable pub is_length : ℕ → Bool
is_length n = eqb n start_length || eqb n full_length
