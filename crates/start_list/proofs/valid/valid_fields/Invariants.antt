-- `valid::valid_fields` meets its contract. The loop's invariant: the fields that are left decide as all of them do.
-- Assumes nothing.
use mathlib.Core.Path.{◌≡◌}
use mathlib.Core.List.{List, map}
use Prim.Native.Nat.{ℕ}
use lib.ListN.{drop}
use Rattle.slices.specs.Tests.{every}
use Rattle.start_list.specs.Rows.{rows_in}
use Rattle.start_list.specs.Listing.{count_in, fields_in}
use Rattle.start_list.specs.Valid.{valid_field}
use Rattle.start_list.proofs.valid.valid_fields.Given as goal

abbrev pub used : List ℕ → List (List ℕ)
used s = rows_in (count_in s) (fields_in s)

abbrev pub invariant-loop-k : goal.invariant-loop-k
invariant-loop-k l = every (map valid_field (drop l.k (used l.s))) ≡ every (map valid_field (used l.s))
