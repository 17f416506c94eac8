-- What START holds: 01, "Terminal data (START, 74 bytes)"; 02, R-7. Every rule takes this record, and none the bytes of START.
-- Assumes nothing.
use Rattle.std.specs.Prelude.{List, [], ℕ, ◌-◌, take, drop, get_or}
use Rattle.std.proofs.Math.Option
use Rattle.std.proofs.Math.Option.{Option}
use Rattle.start_fields.specs.declared.fields.Field.{Field}
use Rattle.start_fields.specs.declared.fields.Field.TheVariants.{Amount, OtherAmount, Country, Currency, Date}
use Rattle.start_fields.specs.declared.fields.Field.TheVariants.{TransactionType, Unpredictable, FloorLimit, Threshold}
use Rattle.start_fields.specs.declared.fields.Field.TheVariants.{Version, Denial, Online, Default, Capabilities}
use Rattle.start_fields.specs.declared.fields.Octet.{Octet}
use Rattle.start_fields.specs.declared.fields.Octet.TheVariants.{Kind, Random, Target, Maximum}
use Rattle.start_fields.specs.Layout.{begin_of, size_of, octet_at, aid_length_at, aid_at, aid_room}
use Rattle.decimal_dates.specs.Decimal.{decimal}
use Rattle.slices.specs.Choice.{unless_empty}

pub record Terminal : Type 0 where
  -- the terminal's type: 0 offline_only, 1 online-only, 2 both
  pub kind : ℕ
  -- 9F02 and 9F03
  pub amount : List ℕ
  pub other_amount : List ℕ
  -- 9F1A and 5F2A
  pub country : List ℕ
  pub currency : List ℕ
  -- 9A and 9C
  pub date : List ℕ
  pub transaction_type : List ℕ
  -- 9F37
  pub unpredictable : List ℕ
  -- for the selection at random
  pub floor_limit : List ℕ
  pub random : ℕ
  pub target : ℕ
  pub threshold : List ℕ
  pub maximum : ℕ
  -- 9F09
  pub version : List ℕ
  -- the terminal action codes
  pub denial : List ℕ
  pub online : List ℕ
  pub default : List ℕ
  -- the AID's own bytes
  pub aid : List ℕ
  -- 9F33, where START has it. This alone tells whether a session goes by the rules of cardholder verification or by those before
  -- them (02, R-7)
  pub capabilities : Option (List ℕ)

-- the numbers that are written in digits
abbrev pub amount_of : Terminal → ℕ
amount_of t = decimal t.amount

abbrev pub other_amount_of : Terminal → ℕ
other_amount_of t = decimal t.other_amount

abbrev pub floor_limit_of : Terminal → ℕ
floor_limit_of t = decimal t.floor_limit

abbrev pub threshold_of : Terminal → ℕ
threshold_of t = decimal t.threshold

-- a run of bytes in START, as many of them as are there
abbrev pub run_in : Field → List ℕ → List ℕ
run_in f s = take (size_of f) (drop (begin_of f) s)

-- one byte in START; 0 where it is not there
abbrev pub octet_in : Octet → List ℕ → ℕ
octet_in o s = get_or s (octet_at o) 0

-- the run of fields that are written in digits, from the amount up to the unpredictable number
abbrev pub digits_in : List ℕ → List ℕ
digits_in s = take (begin_of Unpredictable - begin_of Amount) (drop (begin_of Amount) s)

abbrev pub aid_length_in : List ℕ → ℕ
aid_length_in s = get_or s aid_length_at 0

abbrev pub aid_room_in : List ℕ → List ℕ
aid_room_in s = take aid_room (drop aid_at s)

-- any bytes read as START
unfoldable pub reading_of : List ℕ → Terminal
reading_of s =
    record {
      kind = octet_in Kind s;
      amount = run_in Amount s;
      other_amount = run_in OtherAmount s;
      country = run_in Country s;
      currency = run_in Currency s;
      date = run_in Date s;
      transaction_type = run_in TransactionType s;
      unpredictable = run_in Unpredictable s;
      floor_limit = run_in FloorLimit s;
      random = octet_in Random s;
      target = octet_in Target s;
      threshold = run_in Threshold s;
      maximum = octet_in Maximum s;
      version = run_in Version s;
      denial = run_in Denial s;
      online = run_in Online s;
      default = run_in Default s;
      aid = take (aid_length_in s) (aid_room_in s);
      capabilities = unless_empty (run_in Capabilities s);
    }

-- a field of the record by its name; no bytes where START has it not
abbrev pub bytes_of : Field → Terminal → List ℕ
bytes_of Amount t = t.amount
bytes_of OtherAmount t = t.other_amount
bytes_of Country t = t.country
bytes_of Currency t = t.currency
bytes_of Date t = t.date
bytes_of TransactionType t = t.transaction_type
bytes_of Unpredictable t = t.unpredictable
bytes_of FloorLimit t = t.floor_limit
bytes_of Threshold t = t.threshold
bytes_of Version t = t.version
bytes_of Denial t = t.denial
bytes_of Online t = t.online
bytes_of Default t = t.default
bytes_of Capabilities t = Option.get_or t.capabilities []

abbrev pub octet_of : Octet → Terminal → ℕ
octet_of Kind t = t.kind
octet_of Random t = t.random
octet_of Target t = t.target
octet_of Maximum t = t.maximum
