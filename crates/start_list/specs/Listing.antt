-- The applications that a terminal supports, as START lists them: 02, R-12; 001, 12.3.1.
-- Assumes nothing.
use Rattle.std.specs.Prelude.{Bool, List, [], map, ℕ, eqb, leb, take, drop, get_or}
use Rattle.slices.specs.Choice.{pick}
use Rattle.start_list.specs.Rows.{name_in, mark_in, rows_in}

-- an AID, and 001's Application Selection Indicator: whether a longer name that begins with it is supported too
pub record Listed : Type 0 where
  pub aid : List ℕ
  pub partial : Bool

pub record Applications : Type 0 where
  pub list : List Listed
  -- whether the shopper can choose and confirm: 001, 12.4, has one option for both
  pub choice : Bool

-- where they stand: the number of AIDs; eight fields, each a row; whether the shopper can choose; START's edition
abbrev pub count_at : ℕ
count_at = 57

abbrev pub fields_at : ℕ
fields_at = 58

abbrev pub most_listed : ℕ
most_listed = 8

-- the bytes of the eight fields
abbrev pub fields_size : ℕ
fields_size = 144

abbrev pub choice_at : ℕ
choice_at = 205

abbrev pub edition_at : ℕ
edition_at = 206

-- how many AIDs are listed: no more than there are fields
unfoldable pub count_in : List ℕ → ℕ
count_in s = pick (leb (get_or s count_at 0) most_listed) (get_or s count_at 0) most_listed

unfoldable pub fields_in : List ℕ → List ℕ
fields_in s = take fields_size (drop fields_at s)

-- 0 exact, 1 partial
unfoldable pub listed_of : List ℕ → Listed
listed_of row = record { aid = name_in row; partial = eqb (mark_in row) 1 }

-- any bytes read as a START with a list
unfoldable pub applications_in : List ℕ → Applications
applications_in s = record { list = map listed_of (rows_in (count_in s) (fields_in s)); choice = eqb (get_or s choice_at 0) 1 }

-- the k-th AID, from 0; past the last one an empty AID that is exact
unfoldable pub listed_at : Applications → ℕ → Listed
listed_at t k = get_or t.list k (listed_of [])
