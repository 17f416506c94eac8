-- What is listed at a place is read from the row there; past the last one from no row.
-- Assumes nothing.
use mathlib.Core.Path.{◌≡◌}
use mathlib.Core.List.{List, []}
use Prim.Native.Nat.{ℕ}
use lib.ListN.{get_or, get_or-map}
use Rattle.start_list.specs.Rows.{rows_in}
use Rattle.start_list.specs.Listing.{count_in, fields_in, listed_of, applications_in, listed_at}

pub listed_row : (s : List ℕ) (k : ℕ) → listed_at (applications_in s) k ≡ listed_of (get_or (rows_in (count_in s) (fields_in s)) k [])
unfolding applications_in listed_at
listed_row s k = get_or-map listed_of (rows_in (count_in s) (fields_in s)) k []
