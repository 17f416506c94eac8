-- `directory::join_all` meets its contract. The loop's invariant: the members from p on, after those that have joined, are all.
-- Assumes nothing.
use mathlib.Core.Path.{◌≡◌}
use mathlib.Core.List.{List, map}
use Prim.Native.Nat.{ℕ, ◌-◌}
use lib.ListN.{length}
use Rattle.start_list.specs.Listing.{Applications, applications_in}
use Rattle.tlv_list.specs.Place.{places_from, object_at}
use Rattle.select_list.specs.Order.{Candidate}
use Rattle.select_list.specs.Kept.{list_in}
use Rattle.select_search.specs.Entries.{members_joined}
use Rattle.select_search.proofs.directory.join_all.Given as goal

abbrev pub from : Applications → List ℕ → ℕ → List Candidate → List Candidate
from t s p l = members_joined t (map (object_at s) (places_from s p)) l

abbrev pub invariant-loop-tag : goal.invariant-loop-tag
invariant-loop-tag l = from (applications_in l.start) l.s l.p (list_in l.list) ≡ from (applications_in l.start) l.s 0 (list_in l.initial.list)

abbrev pub decreases-loop-tag : goal.decreases-loop-tag
decreases-loop-tag l = length l.s - l.p
