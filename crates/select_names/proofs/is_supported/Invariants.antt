-- `is_supported` meets its contract. The loop's invariant: the AIDs that are left decide as all of them do.
-- Assumes nothing.
use mathlib.Core.Path.{◌≡◌}
use mathlib.Core.List.{List, map}
use Prim.Native.Nat.{ℕ}
use lib.ListN.{drop}
use Rattle.slices.specs.Tables.{any_of}
use Rattle.start_list.specs.Listing.{Listed, applications_in}
use Rattle.select_names.specs.Names.{matches, supported}
use Rattle.select_names.proofs.is_supported.Given as goal

abbrev pub listed : List ℕ → List Listed
listed start = (applications_in start).list

abbrev pub left_over : List ℕ → List ℕ → ℕ → Type 0
left_over start name k = any_of (map (matches name) (drop k (listed start))) ≡ supported (applications_in start) name

abbrev pub invariant-loop-k : goal.invariant-loop-k
invariant-loop-k l = left_over l.start l.name l.k
