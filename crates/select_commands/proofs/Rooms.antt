-- A name that is sent has at most 16 bytes, in any bytes read as START or as the list.
-- Assumes nothing.
use mathlib.Core.Path.{ap}
use mathlib.Core.List.{List, []}
use Prim.Native.Nat.{ℕ, ◌≤◌}
use native.Mathlib.Omega.{arith}
use lib.ListN.{length, get_or, take, drop, length-take}
use Rattle.start_list.specs.Rows.{name_room, room_in, name_in, rows_in}
use Rattle.start_list.specs.Listing.{count_in, fields_in, listed_of, applications_in, listed_at}
use Rattle.start_list.proofs.Listed.{listed_row}
use Rattle.select_list.specs.Kept.{candidate_in, kept_in, list_in, candidate_at}
use Rattle.select_list.proofs.Keeping.{at_row}

name_most : (row : List ℕ) → length (name_in row) ≤ name_room
unfolding name_in room_in
name_most row =
    let inner = length-take name_room (drop 1 row) in
    let outer = length-take (get_or row 0 0) (take name_room (drop 1 row)) in
    omega arith

pub listed_most : (s : List ℕ) (k : ℕ) → length (listed_at (applications_in s) k).aid ≤ name_room
unfolding listed_of
listed_most s k =
    let same = ap (λ x. length x.aid) (listed_row s k) in
    let most = name_most (get_or (rows_in (count_in s) (fields_in s)) k []) in
    omega arith

pub kept_most : (d : List ℕ) (i : ℕ) → length (candidate_at (list_in d) i).name ≤ name_room
unfolding candidate_in
kept_most d i =
    let same = ap (λ x. length x.name) (at_row d i) in
    let most = name_most (get_or (kept_in d) i []) in
    omega arith
